-- Document 01, "Refusals", rows 4 and 5, as found in the numbers of an axis. The place is the number's index.
use Rattle.std.specs.Prelude.{ℕ, Result, Ok, Err}
use Rattle.refusal.specs.Outcome.{Outcome, accepted, refuse}
use Rattle.grid.specs.declared.AxisFault.{AxisFault}
use Rattle.grid.specs.declared.AxisFault.TheVariants.{OutOfRange, NotRising}

-- the number of its refusal
abbrev pub fault_number : AxisFault → ℕ
fault_number (OutOfRange i) = 4
fault_number (NotRising i) = 5

abbrev pub fault_index : AxisFault → ℕ
fault_index (OutOfRange i) = i
fault_index (NotRising i) = i

abbrev pub fault_of : Result (Unit {0}) AxisFault → Outcome (Unit {0})
fault_of (Ok nothing) = accepted tt
fault_of (Err fault) = refuse (fault_number fault) (fault_index fault)
