-- Document 02, C-14, refusal 32, as found in a sensor's numbers.
use Rattle.std.specs.Prelude.{ℕ, Option, Some, None}
use Rattle.refusal.specs.Outcome.{refusal_with_index, Outcome, accepted, refused}

-- the index of a number out of its range stands for its place too
abbrev pub sensor_fault_of : Option ℕ → Outcome (Unit {0})
sensor_fault_of None = accepted tt
sensor_fault_of (Some i) = refused (refusal_with_index 32 i i)
