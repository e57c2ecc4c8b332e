-- What `axle_steps` promises for any nine numbers and any torque: the answer, and that its steps are the ones rounded up.
use Rattle.std.specs.Prelude.{ℕ, ◌≡◌, List}
use Rattle.sensor.specs.Sensor.{sensor_of}
use Rattle.loss.specs.declared.Steps.{Steps}
use Rattle.loss.specs.SensorSteps.{steps_answer, StepsRoundedUp}
use Rattle.axle.specs.Interface.{steps_of}
use Rattle.axle.specs.declared.AxleSteps.{AxleSteps}

-- the steps in an answer for C
abbrev pub steps_in : AxleSteps → Steps
steps_in a = record {
  temperature_on_sensitivity = a.temperature_on_sensitivity;
  temperature_on_zero = a.temperature_on_zero;
  calibration = a.calibration;
  parasitic_loads = a.parasitic_loads;
  uncertainty = a.uncertainty;
}

-- the whole answer, and where it is no refusal the law of its steps
pub record StepsForC (numbers : List ℕ) (torque : ℕ) (a : AxleSteps) : Type 0 where
  pub answer : a ≡ steps_of (steps_answer (sensor_of numbers) torque)
  pub rounded_up : a.refusal ≡ 0 → StepsRoundedUp (sensor_of numbers) torque (steps_in a)
