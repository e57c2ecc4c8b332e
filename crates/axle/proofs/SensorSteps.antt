-- The steps of a sensor as C has them. Assumes nothing.
use Rattle.std.proofs.Common.{ℕ, ◌≡◌, List, arith, Result, Ok, Err, IfOk}
use Rattle.refusal.specs.Table.{outcome_of}
use Rattle.refusal.proofs.Numbers.{number_between}
use Rattle.refusal.specs.declared.Refusal.{Refusal}
use Rattle.sensor.specs.Sensor.{sensor_of}
use Rattle.sensor.specs.declared.Sensor.{Sensor}
use Rattle.loss.specs.declared.Steps.{Steps}
use Rattle.loss.specs.SensorSteps.{steps_answer, StepsRoundedUp}
use Rattle.loss.proofs.SensorSteps.{rounded_up_unique}
use Rattle.axle.specs.Interface.{steps_of}
use Rattle.axle.specs.Steps.{steps_in, StepsForC}
use Rattle.axle.specs.declared.AxleSteps.{AxleSteps}

module _ (numbers : List ℕ) (torque : ℕ) (sensor : Sensor) (numbered : sensor ≡ sensor_of numbers) where
  pub steps_for_c : (r : Result Steps Refusal) (a : AxleSteps) → a ≡ steps_of (outcome_of r)
      → outcome_of r ≡ steps_answer sensor torque → IfOk r (StepsRoundedUp sensor torque) → StepsForC numbers torque a
  steps_for_c (Ok steps) a same answer up = record { answer = rw (← numbered, ← answer) same; rounded_up = λ _. rw (same, ← numbered) up }
  steps_for_c (Err x) a same answer up = record {
    answer = rw (← numbered, ← answer) same;
    rounded_up = λ none. absurd (omega (arith, (number_between x).0, rw same at none));
  }

-- the promise that they are rounded up leaves one answer, whatever else is promised
pub steps_unique : {numbers : List ℕ} {torque : ℕ} {a b : AxleSteps} → StepsForC numbers torque a → StepsForC numbers torque b → a.refusal ≡ 0 → b.refusal ≡ 0 → steps_in a ≡ steps_in b
steps_unique p q a_is b_is = rounded_up_unique (p.rounded_up a_is) (q.rounded_up b_is)
