-- The steps of a sensor: they are the ones rounded up, which are one answer; what an answer says of 7; and when there are steps. Assumes nothing.
use Prim.Native.Nat.{ℕ, ◌*◌, ◌≤◌, ◌<◌}
use mathlib.Core.Path.{◌≡◌, refl, sym}
use mathlib.Core.Bool.{true, false}
use mathlib.Core.Logic.{⊎_elim}
use native.Mathlib.Omega.{arith}
use borrow.Author.Tests.{le-leb, lt-leb, leb-true}
use lib.Dec.{leb}
use Rattle.arith.specs.Quotient.{quotient_up_law, quotient_up_unique}
use Rattle.refusal.specs.Outcome.{Told, refusal, Outcome, accepted, refused}
use Rattle.refusal.proofs.Steps.{never, same_value, then_accepted, test_accepted, test_refused, placed_accepted}
use Rattle.sensor.specs.Sensor.{SensorRules, check_without_place, sensor_numbers}
use Rattle.sensor.proofs.Sensors.{sensor_rules, sensor_accepted}
use Rattle.sensor.specs.declared.Sensor.{Sensor}
use Rattle.loss.specs.declared.Steps.{Steps}
use Rattle.loss.specs.Measured.{grains_up, temperature_on_sensitivity, temperature_on_zero, calibration, parasitic_loads, least_uncertainty_unique, uncertainty_law, sensor_steps}
use Rattle.loss.specs.SensorSteps.{steps_at, steps_answer, StepsRoundedUp}

pub steps_rounded_up : {sensor : Sensor} → SensorRules sensor → (C : ℕ) → StepsRoundedUp sensor C (sensor_steps sensor C)
unfolding sensor_steps grains_up temperature_on_sensitivity temperature_on_zero calibration parasitic_loads
steps_rounded_up r C = record {
  temperature_on_sensitivity = quotient_up_law _ _ (omega (arith, r.span.0));
  temperature_on_zero = quotient_up_law _ _ (omega (arith, r.span.0));
  calibration = quotient_up_law _ _ (omega (arith, r.advancement.0));
  parasitic_loads = quotient_up_law _ _ (omega arith);
  uncertainty = uncertainty_law _ _ _ _;
}

same : {x y : Steps} → x.temperature_on_sensitivity ≡ y.temperature_on_sensitivity → x.temperature_on_zero ≡ y.temperature_on_zero → x.calibration ≡ y.calibration → x.parasitic_loads ≡ y.parasitic_loads → x.uncertainty ≡ y.uncertainty → x ≡ y
same {x} {y} a b g h u =
    let each : ◌≡◌ {A = Steps} (record { temperature_on_sensitivity = x.temperature_on_sensitivity; temperature_on_zero = x.temperature_on_zero; calibration = x.calibration; parasitic_loads = x.parasitic_loads; uncertainty = x.uncertainty }) y = rw (a, b, g, h, u) refl in
    each

pub rounded_up_unique : {sensor : Sensor} {C : ℕ} {x y : Steps} → StepsRoundedUp sensor C x → StepsRoundedUp sensor C y → x ≡ y
rounded_up_unique {x = x} {y = y} p q =
    let a = quotient_up_unique p.temperature_on_sensitivity q.temperature_on_sensitivity in
    let b = quotient_up_unique p.temperature_on_zero q.temperature_on_zero in
    let g = quotient_up_unique p.calibration q.calibration in
    let h = quotient_up_unique p.parasitic_loads q.parasitic_loads in
    let u : x.uncertainty ≡ y.uncertainty = least_uncertainty_unique p.uncertainty (rw (a, b, g, h) q.uncertainty) in
    same a b g h u

-- ---- what an answer says of the test of 7
module _ (sensor : Sensor) (C place : ℕ) where
  pub not_above : (steps : Steps) → ◌≡◌ {A = Outcome Steps} (accepted steps) (steps_at sensor C place) → (leb C (100 * sensor.nominal) ≡ true) × (steps ≡ sensor_steps sensor C)
  unfolding steps_at
  not_above steps e =
      let p = test_accepted (leb C (100 * sensor.nominal)) 7 place (accepted (sensor_steps sensor C)) steps (sym e) in
      (p.0, sym (same_value _ _ p.1))

  pub above : (t : Told) → ◌≡◌ {A = Outcome Steps} (refused t) (steps_at sensor C place) → (leb C (100 * sensor.nominal) ≡ false) × (t ≡ refusal 7 place)
  unfolding steps_at
  above t e = ⊎_elim (λ p. p) (λ p. never t _ (sym p.1)) (test_refused (leb C (100 * sensor.nominal)) 7 place (accepted (sensor_steps sensor C)) t (sym e))

-- ---- the call, for every sensor and torque: a wrong number is told whatever the torque is; of a sensor that keeps its rules there are steps
-- exactly where the torque is not above its nominal torque, and else 7
module _ (sensor : Sensor) (C : ℕ) where
  pub number_refused : (t : Told) → check_without_place sensor ≡ refused t → steps_answer sensor C ≡ refused t
  unfolding steps_answer
  number_refused t e = rw e

  pub steps_answered : SensorRules sensor → C ≤ 100 * sensor.nominal → steps_answer sensor C ≡ accepted (sensor_steps sensor C)
  unfolding steps_answer steps_at
  steps_answered rules h = rw (sensor_accepted sensor rules, le-leb _ _ h)

  pub answered_only_then : (steps : Steps) → steps_answer sensor C ≡ accepted steps → SensorRules sensor × (C ≤ 100 * sensor.nominal)
  unfolding steps_answer
  answered_only_then steps e =
      let checked = then_accepted (check_without_place sensor) (λ _. steps_at sensor C 0) steps e in
      (sensor_rules (sensor_numbers sensor) (placed_accepted _ _ tt checked.1), leb-true _ _ (not_above sensor C 0 steps (sym checked.2)).0)

  pub torque_refused : SensorRules sensor → 100 * sensor.nominal < C → steps_answer sensor C ≡ refused (refusal 7 0)
  unfolding steps_answer steps_at
  torque_refused rules h = rw (sensor_accepted sensor rules, lt-leb _ _ h)
