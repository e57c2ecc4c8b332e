-- Every sensor of the bench is read in every row, in their order. Assumes nothing.
use Prim.Native.Nat.{ℕ, ◌+◌}
use mathlib.Core.Path.{◌≡◌, refl}
use mathlib.Core.List.{List, [], ◌∷◌, map}
use lib.ListN.{length}
use Rattle.sensor.specs.declared.Sensor.{Sensor}
use Rattle.loss.specs.Measured.{SensorReading, output_reading, readings}
use Rattle.rows.specs.Rows.{Bench, outputs_at, row_at}

pub outputs_count : (sensors : List Sensor) (bytes : List ℕ) (at : ℕ) → length (outputs_at sensors bytes at) ≡ length sensors
unfolding outputs_at
outputs_count [] bytes at = refl
outputs_count (sensor ∷ sensors) bytes at = rw (outputs_count sensors bytes (at + 4))

outputs_kept : (sensors : List Sensor) (bytes : List ℕ) (at : ℕ) → map (λ (reading : SensorReading). reading.sensor) (map output_reading (outputs_at sensors bytes at)) ≡ sensors
unfolding outputs_at
outputs_kept [] bytes at = refl
outputs_kept (sensor ∷ sensors) bytes at = rw (outputs_kept sensors bytes (at + 4))

pub sensors_kept : (bench : Bench) (bytes : List ℕ) (at : ℕ) → map (λ (reading : SensorReading). reading.sensor) (readings (row_at bench bytes at)) ≡ bench.input ∷ bench.outputs
unfolding readings row_at
sensors_kept bench bytes at = rw (outputs_kept bench.outputs bytes (at + 4))
