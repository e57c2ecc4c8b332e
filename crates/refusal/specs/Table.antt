-- Document 01, "Refusals", and document 02, C-12 (30), C-14 (31, 32), C-16 (40 to 42) and C-17 (45 to 47): the number and the place of each case, and which number of its field it was. Where no place is given it is 0.
use Rattle.std.specs.Prelude.{ℕ, Option, Some, None, Result, Ok, Err}
use Rattle.refusal.specs.Outcome.{Told, Outcome, accepted, refused}
use Rattle.refusal.specs.declared.Refusal.{Refusal}
use Rattle.refusal.specs.declared.Refusal.TheVariants.{Incomplete, WrongTag, WrongLength, OutOfRange, NotRising, FirstTorqueAboveStep, AboveNominal, OffAxisTorque, NegativeLoss, EntryTooLarge, TooShort, TrailingBytes, SpeedOutside, TorqueAbove, NotAMap, FileTooShort, RatioOutOfRange, SensorOutOfRange, WrongHeader, WrongLine, BrokenRun, RetarderOutOfLimits, DragOutOfRange, RetarderSpeedOutside}

abbrev pub number : Refusal → ℕ
number (Incomplete p) = 1
number (WrongTag p) = 2
number (WrongLength p) = 3
number (OutOfRange p) = 4
number (NotRising p) = 5
number (FirstTorqueAboveStep p) = 6
number (AboveNominal p) = 7
number (OffAxisTorque p) = 8
number (NegativeLoss p) = 9
number (EntryTooLarge p) = 10
number (TooShort p) = 11
number (TrailingBytes p) = 12
number SpeedOutside = 20
number TorqueAbove = 21
number NotAMap = 22
number (FileTooShort p) = 30
number (RatioOutOfRange p) = 31
number (SensorOutOfRange p i) = 32
number WrongHeader = 40
number (WrongLine p) = 41
number (BrokenRun p) = 42
number RetarderOutOfLimits = 45
number DragOutOfRange = 46
number RetarderSpeedOutside = 47

abbrev pub place : Refusal → ℕ
place (Incomplete p) = p
place (WrongTag p) = p
place (WrongLength p) = p
place (OutOfRange p) = p
place (NotRising p) = p
place (FirstTorqueAboveStep p) = p
place (AboveNominal p) = p
place (OffAxisTorque p) = p
place (NegativeLoss p) = p
place (EntryTooLarge p) = p
place (TooShort p) = p
place (TrailingBytes p) = p
place SpeedOutside = 0
place TorqueAbove = 0
place NotAMap = 0
place (FileTooShort p) = p
place (RatioOutOfRange p) = p
place (SensorOutOfRange p i) = p
place WrongHeader = 0
place (WrongLine p) = p
place (BrokenRun p) = p
place RetarderOutOfLimits = 0
place DragOutOfRange = 0
place RetarderSpeedOutside = 0

-- "which number of the field it was, from 0": for these two, and for no other
abbrev pub index : Refusal → Option ℕ
index (RatioOutOfRange p) = Some 0
index (SensorOutOfRange p i) = Some i
index _ = None

abbrev pub told : Refusal → Told
told r = record { number = number r; place = place r; index = index r }

-- what an answer says in document 01's terms
abbrev pub outcome_of : {A : Type 0} → Result A Refusal → Outcome A
outcome_of (Ok value) = accepted value
outcome_of (Err x) = refused (told x)

-- the same, of what the value stands for
abbrev pub outcome_as : {A B : Type 0} → (A → B) → Result A Refusal → Outcome B
outcome_as meaning (Ok value) = accepted (meaning value)
outcome_as meaning (Err x) = refused (told x)
