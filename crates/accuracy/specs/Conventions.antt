-- A fraction over 0, a difference under 0, a fraction under zero rounded up and a number past the end of a list have a value by convention only. Accepted data reaches none of them. And it loses no sensor on the way.
use Rattle.std.specs.Prelude.{ℕ, ◌+◌, ◌≤◌, ◌<◌, ◌≡◌, false, List, [], ◌∷◌, map, length, get_or}
use Rattle.component.specs.Component.{Component, Rows, Kind, standard, measured, sensor_count, kind_number, row_length}
use Rattle.sensor.specs.declared.Sensor.{Sensor}
use Rattle.loss.specs.PartAbove.{under_zero}
use Rattle.loss.specs.Standard.{line_of, standard_loss}
use Rattle.loss.specs.Measured.{loss_is_under_zero, temperature_on_sensitivity, temperature_on_zero, calibration, parasitic_loads, SensorReading, output, readings}
use Rattle.map.specs.Build.{points, point_index, point_start, point_row}
use Rattle.cell.specs.Cell.{Cell, Has}
use Rattle.cell.specs.declared.Point.{Point}

-- no part of a sensor's uncertainty is over 0
pub record PartsDefined (sensor : Sensor) : Type 0 where
  pub sensitivity : (C : ℕ) → 0 < (temperature_on_sensitivity sensor C).denominator
  pub zero : 0 < (temperature_on_zero sensor).denominator
  pub calibration : 0 < (calibration sensor).denominator
  pub parasitic : 0 < (parasitic_loads sensor).denominator

-- of every sensor
abbrev pub AllPartsDefined : List Sensor → Type 0
AllPartsDefined [] = Unit {0}
AllPartsDefined (sensor ∷ sensors) = PartsDefined sensor × AllPartsDefined sensors

-- the row of a point: it stands in the bytes of the rows, and every sensor of the data is read in it, in their order
pub record RowDefined (c : Component) (speed torque : ℕ) (input : Sensor) (outputs : List Sensor) (rows : Rows) : Type 0 where
  pub ends : point_start c speed torque outputs + row_length (sensor_count outputs) ≤ length rows.bytes
  pub sensors : map (λ (reading : SensorReading). reading.sensor) (readings (point_row c speed torque input outputs rows)) ≡ input ∷ outputs
  -- what the entry is rounded up from is not under zero: `round_up` has 0 for that
  pub not_under_zero :
      let row = point_row c speed torque input outputs rows in
      loss_is_under_zero row.ratio row.input (output row) ≡ false

abbrev pub PointDefined : Component → (speed torque : ℕ) → Kind → Type 0
PointDefined c speed torque standard = under_zero (standard_loss (line_of c.line) c.ratio (get_or c.torques torque 0)) ≡ false
PointDefined c speed torque (measured input outputs rows) = RowDefined c speed torque input outputs rows

abbrev pub KindDefined : Kind → Type 0
KindDefined standard = Unit {0}
KindDefined (measured input outputs rows) = AllPartsDefined (input ∷ outputs)

-- the shares of a cell's sides are over a width above 0
pub record WidthsDefined (speeds torques : List ℕ) (k : Cell) : Type 0 where
  pub speed : get_or speeds k.speed 0 < get_or speeds (k.speed + 1) 0
  pub torque : get_or torques k.torque 0 < get_or torques (k.torque + 1) 0

pub record Defined (bytes : List ℕ) (c : Component) (entries : List ℕ) : Type 0 where
  -- the data has as many sensors as the byte of its kind says, or is standard
  pub kind_byte : get_or bytes 3 0 ≡ kind_number c.kind
  -- the axle line is one of the table's five
  pub first_line : 1 ≤ c.line
  pub last_line : c.line ≤ 5
  pub efficiency_above_0 : 0 < (line_of c.line).efficiency
  pub efficiency_to_100 : (line_of c.line).efficiency ≤ 100
  pub kind : KindDefined c.kind
  pub point : (i j : ℕ) → i < length c.speeds → j < length c.torques → PointDefined c i j c.kind
  -- every point of the grid is one of the points, and has its entry
  pub point_there : (i j : ℕ) → i < length c.speeds → j < length c.torques → point_index c i j < points c
  pub entry_there : (i j : ℕ) → i < length c.speeds → j < length c.torques → point_index c i j < length entries
  pub widths : (p : Point) (k : Cell) → Has c.speeds c.torques p k → WidthsDefined c.speeds c.torques k
