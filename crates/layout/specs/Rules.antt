-- Document 01, "Component data", and document 02, C-11: the ranges, orders and counts that the numbers keep, said of each number by its index.
use Rattle.std.specs.Prelude.{ℕ, ◌+◌, ◌*◌, ◌≤◌, ◌<◌, ◌≡◌, List, ◌∷◌, length, get_or}
use Rattle.grid.specs.Axis.{◌to◌}
use Rattle.grid.specs.Rules.{InRange, AxisRules, FirstStep}
use Rattle.component.specs.Component.{Component, Rows, Kind, standard, measured, sensor_count, row_length}
use Rattle.sensor.specs.Sensor.{AllSensorRules}
use Rattle.sensor.specs.declared.Sensor.{Sensor}

-- every number is below a limit
abbrev pub AllBelow : (limit : ℕ) → List ℕ → Type 0
AllBelow limit numbers = (i : ℕ) → i < length numbers → get_or numbers i 0 < limit

-- every number is a byte, or fits in four of them
abbrev pub AreBytes : List ℕ → Type 0
AreBytes bytes = AllBelow 256 bytes

abbrev pub FitFourBytes : List ℕ → Type 0
FitFourBytes numbers = AllBelow 4294967296 numbers

-- where the sensors start: after the heads and numbers of tags 1 to 5
abbrev pub sensors_start : (speeds torques : ℕ) → ℕ
sensors_start speeds torques = 19 + 2 * speeds + 2 * torques

-- where the head of the rows stands: a sensor has 21 bytes with its head
abbrev pub rows_head : (sensors speeds torques : ℕ) → ℕ
rows_head sensors speeds torques = sensors_start speeds torques + 21 * sensors

-- one output sensor or two, every sensor with its rules, and a row for each point; the rows start after the three bytes of their head
pub record MeasuredRules (speeds torques : ℕ) (input : Sensor) (outputs : List Sensor) (rows : Rows) : Type 0 where
  pub some_output : 1 ≤ length outputs
  pub most_outputs : length outputs ≤ 2
  pub sensors : AllSensorRules (input ∷ outputs)
  pub long : length rows.bytes ≡ row_length (sensor_count outputs) * (speeds * torques)
  pub are_bytes : AreBytes rows.bytes
  pub start : rows.start ≡ rows_head (sensor_count outputs) speeds torques + 3

abbrev pub KindRules : (speeds torques : ℕ) → Kind → Type 0
KindRules speeds torques standard = Unit {0}
KindRules speeds torques (measured input outputs rows) = MeasuredRules speeds torques input outputs rows

-- all rules of the fields
pub record Rules (c : Component) : Type 0 where
  pub line : InRange (1 to 5) c.line
  pub ratio : InRange (1000 to 20000) c.ratio
  pub speeds : AxisRules (1 to 3000) 32 c.speeds (length c.speeds)
  pub torques : AxisRules (0 to 50000) 64 c.torques (length c.torques)
  pub step : FirstStep c.torques
  pub kind : KindRules (length c.speeds) (length c.torques) c.kind
