-- Document 01, "Component data", tags 6 and 7, and document 02, C-11, tag 9: the body of a sensor's field.
use Rattle.std.specs.Prelude.{ℕ, List}
use Rattle.refusal.specs.Outcome.{Outcome, accepted, ◌>>=◌, placed}
use Rattle.fields.specs.Bytes.{pairs}
use Rattle.fields.specs.Field.{offset}
use Rattle.sensor.specs.declared.Sensor.{Sensor}
use Rattle.sensor.specs.Sensor.{sensor_check, sensor_of}

-- the body of tag 6, 7 or 9
unfoldable pub sensor : List ℕ → ℕ → Outcome Sensor
sensor body place = do
  _ ← placed (offset place) (sensor_check (pairs body))
  accepted (sensor_of (pairs body))
