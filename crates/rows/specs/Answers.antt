-- What the code's answers about a row say in document 01's terms.
use Rattle.std.specs.Prelude.{ℕ, ◌+◌, ◌*◌, List, [], ◌∷◌, length, get_or, drop, Option, Some, None}
use Rattle.refusal.specs.Outcome.{Outcome, accepted, ◌>>=◌, placed, first_refusal}
use Rattle.component.specs.Answers.{output_sensors}
use Rattle.sensor.specs.declared.Sensor.{Sensor}
use Rattle.grid.specs.Lists.{tabulate}
use Rattle.loss.specs.Measured.{Output, Row, row_uncertainty, measured_entry}
use Rattle.loss.specs.SensorSteps.{nominal_check}
use Rattle.loss.specs.declared.PreparedSensor.{PreparedSensor}
use Rattle.rows.specs.Rows.{Bench, row_at, row_start, outputs_check, row_check}
use Rattle.rows.specs.declared.Bench.{Bench as BenchParts}
use Rattle.rows.specs.declared.row.Reading.{Reading}
use Rattle.rows.specs.declared.row.Row.{Row as RowParts}

-- the right output's sensor, if there is one
abbrev pub right_sensor : Option PreparedSensor → List Sensor
right_sensor None = []
right_sensor (Some s) = s.sensor ∷ []

-- the code's bench in the definitions' terms
abbrev pub bench_of : BenchParts → Bench
bench_of b = record {
  ratio = b.ratio;
  input = b.input.sensor;
  outputs = b.output.sensor ∷ right_sensor b.right;
}

-- a bench of these sensors
abbrev pub bench_with : (ratio : ℕ) (input output : Sensor) (right : Option Sensor) → Bench
bench_with ratio input output right = record {
  ratio = ratio;
  input = input;
  outputs = output_sensors output right;
}

-- an output as it is read
abbrev pub output_of : Reading → Output
output_of r = record { sensor = r.sensor.now.sensor; torque = r.torque }

-- the right output, if there is one
abbrev pub right_output : Option Reading → List Output
right_output None = []
right_output (Some r) = output_of r ∷ []

-- the code's row in the definitions' terms
abbrev pub row_of : RowParts → Row
row_of row = record {
  ratio = row.ratio;
  sensor = row.input.sensor.now.sensor;
  input = row.input.torque;
  outputs = output_of row.output ∷ right_output row.right;
}

-- a row whose first byte is at a place: 7 of each sensor, or its loss uncertainty
unfoldable pub uncertainty_outcome : Row → ℕ → Outcome ℕ
uncertainty_outcome row place = do
  _ ← nominal_check row.sensor row.input place
  _ ← outputs_check row.outputs (place + 4)
  accepted (row_uncertainty row)

-- its refusal or its entry
unfoldable pub row_outcome : ℕ → Row → ℕ → Outcome ℕ
row_outcome torque row place = do
  _ ← placed (λ offset. place + offset) (row_check torque row)
  accepted (measured_entry row)

-- ---- all rows

-- row j of a part of the rows' bytes that starts at a place, against the axis's torques
unfoldable pub part_check : Bench → List ℕ → List ℕ → ℕ → ℕ → Outcome (Unit {0})
part_check bench torques rows place j =
    placed (λ offset. place + row_start bench j + offset) (row_check (get_or torques j 0) (row_at bench rows (row_start bench j)))

unfoldable pub part_entry : Bench → List ℕ → ℕ → ℕ
part_entry bench rows j = measured_entry (row_at bench rows (row_start bench j))

-- the rows of a speed, in the rows' bytes
unfoldable pub speed_part_check : Bench → List ℕ → List ℕ → ℕ → ℕ → Outcome (Unit {0})
speed_part_check bench torques rows place speed =
    let first = row_start bench (speed * length torques) in
    first_refusal (part_check bench torques (drop first rows) (place + first)) 0 (length torques)

unfoldable pub speed_part_entries : Bench → List ℕ → List ℕ → ℕ → List ℕ
speed_part_entries bench torques rows speed =
    tabulate (part_entry bench (drop (row_start bench (speed * length torques)) rows)) (length torques)
