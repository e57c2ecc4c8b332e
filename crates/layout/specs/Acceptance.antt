-- Component data is accepted exactly when no refusal applies.
use Rattle.std.specs.Prelude.{ℕ, ◌+◌, ◌*◌, ◌≤◌, ◌<◌, ◌≡◌, List, [], ◌∷◌, ◌⊎◌, length}
use Rattle.refusal.specs.Outcome.{refusal, Told, accepted, refused}
use Rattle.grid.specs.Axis.{◌to◌}
use Rattle.grid.specs.Rules.{InRange, AxisRules, FirstStep}
use Rattle.fields.specs.Field.{exactly, numbers, ratio_refusal}
use Rattle.component.specs.Component.{Component, sensor_tags, rows_tag, row_length, component}
use Rattle.sensor.specs.declared.Sensor.{Sensor}
use Rattle.layout.specs.Layout.{two_bytes, number_bytes, layout}
use Rattle.layout.specs.Rules.{AreBytes, sensors_start, rows_head, Rules}
use Rattle.sensor.specs.Sensor.{SensorRules, sensor_numbers}
use Rattle.layout.specs.Faults.{Stands, FieldFault, NumberFault, AxisFault, TorqueFault, SensorFault, NoFault}

-- ---- fields that stand in their places and keep their rules

pub record AxleStands (bytes : List ℕ) (kind line ratio : ℕ) : Type 0 where
  pub kind_there : Stands bytes 0 1 (exactly 1) (kind ∷ [])
  pub kind_range : InRange (1 to 3) kind
  pub line_there : Stands bytes 4 2 (exactly 1) (line ∷ [])
  pub line_range : InRange (1 to 5) line
  pub ratio_there : Stands bytes 8 3 (exactly 2) (two_bytes ratio)
  pub ratio_range : InRange (1000 to 20000) ratio

pub record SpeedsStand (bytes : List ℕ) (speeds : List ℕ) : Type 0 where
  pub there : Stands bytes 13 4 (numbers 2 32) (number_bytes speeds)
  pub rules : AxisRules (1 to 3000) 32 speeds (length speeds)

-- after m speeds
pub record TorquesStand (bytes : List ℕ) (m : ℕ) (torques : List ℕ) : Type 0 where
  pub there : Stands bytes (16 + 2 * m) 5 (numbers 2 64) (number_bytes torques)
  pub rules : AxisRules (0 to 50000) 64 torques (length torques)
  pub step : FirstStep torques

pub record SensorStands (bytes : List ℕ) (at tag : ℕ) (sensor : Sensor) : Type 0 where
  pub there : Stands bytes at tag (exactly 18) (number_bytes (sensor_numbers sensor))
  pub rules : SensorRules sensor

-- sensors stand one after another from a place on, each with its tag
abbrev pub SensorsStand : List ℕ → ℕ → (tags : List ℕ) → List Sensor → Type 0
SensorsStand bytes at [] [] = Unit {0}
SensorsStand bytes at [] (sensor ∷ sensors) = ⊥
SensorsStand bytes at (tag ∷ tags) [] = ⊥
SensorsStand bytes at (tag ∷ tags) (sensor ∷ sensors) = SensorStands bytes at tag sensor × SensorsStand bytes (at + 21) tags sensors

-- tags 1 to 5 stand there, with m speeds and n torques
pub record AxesStand (bytes : List ℕ) (kind m n : ℕ) : Type 0 where
  pub line : ℕ
  pub ratio : ℕ
  pub speeds : List ℕ
  pub torques : List ℕ
  pub axle_stands : AxleStands bytes kind line ratio
  pub speeds_stand : SpeedsStand bytes speeds
  pub torques_stand : TorquesStand bytes m torques
  pub speed_count : length speeds ≡ m
  pub torque_count : length torques ≡ n

-- ---- the first field that is wrong, the ones before it being right

-- the first sensor that is wrong, those before it standing there
abbrev pub SensorsFault : List ℕ → ℕ → (tags : List ℕ) → Told → Type 0
SensorsFault bytes at [] t = ⊥
SensorsFault bytes at (tag ∷ tags) t =
    FieldFault bytes at tag (exactly 18) SensorFault t
    ⊎ ((sensor : Sensor) × SensorStands bytes at tag sensor × SensorsFault bytes (at + 21) tags t)

-- the place past the rows of a measured kind
abbrev pub rows_end : (kind m n : ℕ) → ℕ
rows_end kind m n = rows_head kind m n + 3 + row_length kind * (m * n)

pub data Fault (bytes : List ℕ) (t : Told) : Type 0 where
  in_kind : FieldFault bytes 0 1 (exactly 1) (NumberFault (1 to 3) (refusal 4)) t → Fault bytes t
  in_line : (kind : ℕ) → Stands bytes 0 1 (exactly 1) (kind ∷ []) → InRange (1 to 3) kind
      → FieldFault bytes 4 2 (exactly 1) (NumberFault (1 to 5) (refusal 4)) t → Fault bytes t
  in_ratio : (kind line : ℕ) → Stands bytes 0 1 (exactly 1) (kind ∷ []) → InRange (1 to 3) kind
      → Stands bytes 4 2 (exactly 1) (line ∷ []) → InRange (1 to 5) line
      → FieldFault bytes 8 3 (exactly 2) (NumberFault (1000 to 20000) ratio_refusal) t → Fault bytes t
  in_speeds : (kind line ratio : ℕ) → AxleStands bytes kind line ratio
      → FieldFault bytes 13 4 (numbers 2 32) (AxisFault (1 to 3000)) t → Fault bytes t
  in_torques : (kind line ratio : ℕ) (speeds : List ℕ) → AxleStands bytes kind line ratio → SpeedsStand bytes speeds
      → FieldFault bytes (16 + 2 * length speeds) 5 (numbers 2 64) TorqueFault t → Fault bytes t
  in_sensors : (kind m n : ℕ) → AxesStand bytes kind m n → 2 ≤ kind
      → SensorsFault bytes (sensors_start m n) (sensor_tags kind) t → Fault bytes t
  in_rows : (kind m n : ℕ) (sensors : List Sensor) → AxesStand bytes kind m n → 2 ≤ kind
      → SensorsStand bytes (sensors_start m n) (sensor_tags kind) sensors
      → FieldFault bytes (rows_head kind m n) (rows_tag kind) (exactly (row_length kind * (m * n))) NoFault t → Fault bytes t
  -- 12: the data goes on past the last field; the place is that of the next byte
  after_torques : (m n : ℕ) → AxesStand bytes 1 m n → sensors_start m n < length bytes → t ≡ refusal 12 (sensors_start m n) → Fault bytes t
  after_rows : (kind m n : ℕ) (sensors : List Sensor) (rows : List ℕ) → AxesStand bytes kind m n → 2 ≤ kind
      → SensorsStand bytes (sensors_start m n) (sensor_tags kind) sensors
      → Stands bytes (rows_head kind m n) (rows_tag kind) (exactly (row_length kind * (m * n))) rows
      → rows_end kind m n < length bytes → t ≡ refusal 12 (rows_end kind m n) → Fault bytes t

-- ---- the statements

-- What is accepted keeps every rule, and its fields laid out again are the data's bytes.
abbrev pub Sound : Type 0
Sound = (bytes : List ℕ) (c : Component) → AreBytes bytes → component bytes ≡ accepted c → Rules c × (layout c ≡ bytes)

-- Numbers that keep every rule, laid out, are read as those numbers.
abbrev pub Complete : Type 0
Complete = (c : Component) → Rules c → component (layout c) ≡ accepted c

-- A refusal means that its row's condition holds at its place, and that everything before is right; and the other way round.
abbrev pub Refused : Type 0
Refused = (bytes : List ℕ) (t : Told) → AreBytes bytes → component bytes ≡ refused t → Fault bytes t

abbrev pub RefusedOnlyThen : Type 0
RefusedOnlyThen = (bytes : List ℕ) (t : Told) → Fault bytes t → component bytes ≡ refused t
