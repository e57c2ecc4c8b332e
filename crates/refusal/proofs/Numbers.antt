-- The numbers of the table's rows. Assumes nothing.
use Prim.Native.Nat.{◌≤◌}
use native.Mathlib.Omega.{arith}
use Rattle.refusal.specs.Table.{number}
use Rattle.refusal.specs.declared.Refusal.{Refusal}
use Rattle.refusal.specs.declared.Refusal.TheVariants.{Incomplete, WrongTag, WrongLength, OutOfRange, NotRising, FirstTorqueAboveStep, AboveNominal, OffAxisTorque, NegativeLoss, EntryTooLarge, TooShort, TrailingBytes, SpeedOutside, TorqueAbove, NotAMap, FileTooShort, RatioOutOfRange, SensorOutOfRange, WrongHeader, WrongLine, BrokenRun, RetarderOutOfLimits, DragOutOfRange, RetarderSpeedOutside}

-- each is from 1 to 47
pub number_between : (x : Refusal) → (1 ≤ number x) × (number x ≤ 47)
number_between (Incomplete p) = (omega arith, omega arith)
number_between (WrongTag p) = (omega arith, omega arith)
number_between (WrongLength p) = (omega arith, omega arith)
number_between (OutOfRange p) = (omega arith, omega arith)
number_between (NotRising p) = (omega arith, omega arith)
number_between (FirstTorqueAboveStep p) = (omega arith, omega arith)
number_between (AboveNominal p) = (omega arith, omega arith)
number_between (OffAxisTorque p) = (omega arith, omega arith)
number_between (NegativeLoss p) = (omega arith, omega arith)
number_between (EntryTooLarge p) = (omega arith, omega arith)
number_between (TooShort p) = (omega arith, omega arith)
number_between (TrailingBytes p) = (omega arith, omega arith)
number_between SpeedOutside = (omega arith, omega arith)
number_between TorqueAbove = (omega arith, omega arith)
number_between NotAMap = (omega arith, omega arith)
number_between (FileTooShort p) = (omega arith, omega arith)
number_between (RatioOutOfRange p) = (omega arith, omega arith)
number_between (SensorOutOfRange p i) = (omega arith, omega arith)
number_between WrongHeader = (omega arith, omega arith)
number_between (WrongLine p) = (omega arith, omega arith)
number_between (BrokenRun p) = (omega arith, omega arith)
number_between RetarderOutOfLimits = (omega arith, omega arith)
number_between DragOutOfRange = (omega arith, omega arith)
number_between RetarderSpeedOutside = (omega arith, omega arith)
