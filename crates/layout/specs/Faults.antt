-- Document 01, "Refusals", rows 1 to 6 and 12, and document 02, C-14 (31, 32): the condition of each row, said of the bytes at its place where everything before is right.
use Rattle.std.specs.Prelude.{ℕ, ◌+◌, ◌-◌, ◌*◌, ◌≤◌, ◌<◌, ◌≡◌, Bool, true, false, List, ◌⊎◌, length, get_or}
use Rattle.refusal.specs.Outcome.{Told, refusal, refusal_with_index}
use Rattle.grid.specs.Axis.{◌to◌}
use Rattle.grid.specs.Rules.{InRange, AxisRules}
use Rattle.grid.specs.declared.Range.{Range}
use Rattle.fields.specs.Bytes.{number_of, pairs, between}
use Rattle.sensor.specs.Sensor.{sensor_ranges}
use Rattle.layout.specs.Layout.{field_bytes}

-- ---- one field

-- a field stands at a place: its tag, its length and its body, of a length that is allowed
pub record Stands (bytes : List ℕ) (at tag : ℕ) (allowed : ℕ → Bool) (body : List ℕ) : Type 0 where
  pub ends : at + 3 + length body ≤ length bytes
  pub there : between bytes at (at + 3 + length body) ≡ field_bytes tag body
  pub fits : allowed (length body) ≡ true

-- the length that the head at a place says
abbrev pub length_at : List ℕ → ℕ → ℕ
length_at bytes at = get_or bytes (at + 1) 0 * 256 + get_or bytes (at + 2) 0

-- rows 1 to 3, where the field with this tag is due at this place
pub data HeadFault (bytes : List ℕ) (at tag : ℕ) (allowed : ℕ → Bool) (t : Told) : Type 0 where
  -- 1: the end of the data cuts off the head
  head_incomplete : at < length bytes → length bytes < at + 3 → t ≡ refusal 1 at → HeadFault bytes at tag allowed t
  -- 2: another tag stands there
  other_tag : at + 3 ≤ length bytes → (get_or bytes at 0 ≡ tag → ⊥) → t ≡ refusal 2 at → HeadFault bytes at tag allowed t
  -- 2: the data ends before the field
  none_left : length bytes ≤ at → t ≡ refusal 2 at → HeadFault bytes at tag allowed t
  -- 3: a length that is not allowed
  other_length : at + 3 ≤ length bytes → get_or bytes at 0 ≡ tag → allowed (length_at bytes at) ≡ false → t ≡ refusal 3 at → HeadFault bytes at tag allowed t
  -- 1: the end of the data cuts off the body
  body_incomplete : at + 3 ≤ length bytes → get_or bytes at 0 ≡ tag → allowed (length_at bytes at) ≡ true → length bytes < at + 3 + length_at bytes at → t ≡ refusal 1 at → HeadFault bytes at tag allowed t

-- a field is wrong in its head, or it stands there and its body is wrong
pub data FieldFault (bytes : List ℕ) (at tag : ℕ) (allowed : ℕ → Bool) (BodyFault : List ℕ → ℕ → Told → Type 0) (t : Told) : Type 0 where
  in_head : HeadFault bytes at tag allowed t → FieldFault bytes at tag allowed BodyFault t
  in_body : (body : List ℕ) → Stands bytes at tag allowed body → BodyFault body (at + 3) t → FieldFault bytes at tag allowed BodyFault t

-- ---- rows 4 to 6, 31 and 32, in a body whose first byte is at a place

-- the body is one number, which is not in its range; the refusal is the one that this field has at this place: 4, or 31 for the ratio
pub record NumberFault (range : Range) (refused_at : (place : ℕ) → Told) (body : List ℕ) (place : ℕ) (t : Told) : Type 0 where
  pub outside : InRange range (number_of body) → ⊥
  pub told : t ≡ refused_at place

-- the first wrong number of an axis: 4 where it is not in its range, 5 where it is and does not rise
pub record AxisFault (range : Range) (body : List ℕ) (place : ℕ) (t : Told) : Type 0 where
  pub index : ℕ
  pub below : index < length (pairs body)
  pub ranges : (i : ℕ) → i < index → InRange range (get_or (pairs body) i 0)
  pub rising : (i : ℕ) → i + 1 < index → get_or (pairs body) i 0 < get_or (pairs body) (i + 1) 0
  pub wrong :
      ((InRange range (get_or (pairs body) index 0) → ⊥) × (t ≡ refusal 4 (place + 2 * index)))
      ⊎ (InRange range (get_or (pairs body) index 0) × (0 < index) × (get_or (pairs body) index 0 ≤ get_or (pairs body) (index - 1) 0) × (t ≡ refusal 5 (place + 2 * index)))

-- the torque axis, also 6 at its first torque, which is then above the step to the second
pub data TorqueFault (body : List ℕ) (place : ℕ) (t : Told) : Type 0 where
  numbers_wrong : AxisFault (0 to 50000) body place t → TorqueFault body place t
  step_wrong : AxisRules (0 to 50000) 64 (pairs body) (length (pairs body)) → get_or (pairs body) 1 0 - get_or (pairs body) 0 0 < get_or (pairs body) 0 0 → t ≡ refusal 6 place → TorqueFault body place t

-- 32: the first wrong number of a sensor, and which of them it is
pub record SensorFault (body : List ℕ) (place : ℕ) (t : Told) : Type 0 where
  pub index : ℕ
  pub below : index < 9
  pub ranges : (i : ℕ) → i < index → InRange (get_or sensor_ranges i (0 to 0)) (get_or (pairs body) i 0)
  pub outside : InRange (get_or sensor_ranges index (0 to 0)) (get_or (pairs body) index 0) → ⊥
  pub told : t ≡ refusal_with_index 32 (place + 2 * index) index

-- the rows are not looked at by the reader
abbrev pub NoFault : List ℕ → ℕ → Told → Type 0
NoFault body place t = ⊥
