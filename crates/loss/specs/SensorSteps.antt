-- Document 02, C-15: the steps of a sensor at a torque in the order of the annex (source document 002, Annex VII, 4.4.6), or the refusal of them. Assumes nothing.
use Rattle.std.specs.Prelude.{ℕ, ◌*◌, leb}
use Rattle.arith.specs.Quotient.{QuotientUp}
use Rattle.refusal.specs.Outcome.{Outcome, accepted, ◌>>=◌, require}
use Rattle.sensor.specs.Sensor.{check_without_place}
use Rattle.sensor.specs.declared.Sensor.{Sensor}
use Rattle.loss.specs.declared.Steps.{Steps}
use Rattle.loss.specs.Measured.{Part, temperature_on_sensitivity, temperature_on_zero, calibration, parasitic_loads, LeastUncertainty, sensor_steps}

-- 7: a torque is not above its sensor's nominal torque; told at a place
abbrev pub nominal_check : Sensor → (C place : ℕ) → Outcome (Unit {0})
nominal_check sensor C place = require (leb C (100 * sensor.nominal)) 7 place

-- that, then the steps; in a build the place is the torque's offset
unfoldable pub steps_at : Sensor → (C place : ℕ) → Outcome Steps
steps_at sensor C place = do
  _ ← nominal_check sensor C place
  accepted (sensor_steps sensor C)

-- "32 as in the writer, then 7", "both with place 0"
unfoldable pub steps_answer : Sensor → (C : ℕ) → Outcome Steps
steps_answer sensor C = do
  _ ← check_without_place sensor
  steps_at sensor C 0

-- a part rounded up: not below it, and less than a grain above it
abbrev pub PartRoundedUp : Part → ℕ → Type 0
PartRoundedUp p grains = QuotientUp p.numerator p.denominator grains

-- "always the ones rounded up": each step by the law that one number obeys, and not by what rounds in `sensor_steps`
pub record StepsRoundedUp (sensor : Sensor) (C : ℕ) (steps : Steps) : Type 0 where
  pub temperature_on_sensitivity : PartRoundedUp (temperature_on_sensitivity sensor C) steps.temperature_on_sensitivity
  pub temperature_on_zero : PartRoundedUp (temperature_on_zero sensor) steps.temperature_on_zero
  pub calibration : PartRoundedUp (calibration sensor) steps.calibration
  pub parasitic_loads : PartRoundedUp (parasitic_loads sensor) steps.parasitic_loads
  pub uncertainty : LeastUncertainty steps.temperature_on_sensitivity steps.temperature_on_zero steps.calibration steps.parasitic_loads steps.uncertainty
