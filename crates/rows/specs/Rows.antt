-- Document 01, "Component data", tag 8, and "Refusals", 7 to 10, with document 02, C-11: one row of readings.
use Rattle.std.specs.Prelude.{ℕ, ◌+◌, ◌*◌, Bool, ◌&&◌, not, List, [], ◌∷◌, leb}
use Rattle.refusal.specs.Outcome.{Outcome, accepted, ◌>>=◌, require}
use Rattle.fields.specs.Bytes.{number_of, between}
use Rattle.sensor.specs.declared.Sensor.{Sensor}
use Rattle.component.specs.Component.{sensor_count, row_length}
use Rattle.loss.specs.Measured.{Output, Row, output, loss_is_under_zero, measured_entry}
use Rattle.loss.specs.SensorSteps.{nominal_check}

-- what all rows share: the ratio and the sensors
pub record Bench : Type 0 where
  pub ratio : ℕ
  pub input : Sensor
  pub outputs : List Sensor

-- the torque of four bytes from a place on, in hundredths of Nm
unfoldable pub torque_at : List ℕ → ℕ → ℕ
torque_at bytes at = number_of (between bytes at (at + 4))

-- each output sensor with its torque, one torque after another from a place on
unfoldable pub outputs_at : List Sensor → List ℕ → ℕ → List Output
outputs_at [] bytes at = []
outputs_at (sensor ∷ sensors) bytes at = record { sensor = sensor; torque = torque_at bytes at } ∷ outputs_at sensors bytes (at + 4)

-- the row that starts at a place: the torque of the input, then those of the outputs
unfoldable pub row_at : Bench → List ℕ → ℕ → Row
row_at bench bytes at = record {
  ratio = bench.ratio;
  sensor = bench.input;
  input = torque_at bytes at;
  outputs = outputs_at bench.outputs bytes (at + 4);
}

-- where a row starts in the bytes of all rows, by its index
abbrev pub row_start : Bench → ℕ → ℕ
row_start bench row = row_length (sensor_count bench.outputs) * row

-- an output torque is at most 5.00 Nm off its axis torque, which is in Nm
unfoldable pub near_axis : (torque output : ℕ) → Bool
near_axis torque output = leb output (100 * torque + 500) && leb (100 * torque) (output + 500)

-- 7 of each output, in their order; the first one's torque is at a place
unfoldable pub outputs_check : List Output → ℕ → Outcome (Unit {0})
outputs_check [] place = accepted tt
outputs_check (o ∷ os) place = do
  _ ← nominal_check o.sensor o.torque place
  outputs_check os (place + 4)

-- The tests of a row, in their order. A place counts from the row's first byte. 8 and 9 are of all outputs' torque together.
unfoldable pub row_check : ℕ → Row → Outcome (Unit {0})
row_check torque row = do
  _ ← nominal_check row.sensor row.input 0
  _ ← outputs_check row.outputs 4
  _ ← require (near_axis torque (output row)) 8 4
  _ ← require (not (loss_is_under_zero row.ratio row.input (output row))) 9 0
  require (leb (measured_entry row) 10000000) 10 0
