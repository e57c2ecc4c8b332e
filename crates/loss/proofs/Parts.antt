-- A sensor's parts and its uncertainty: the law of U, and their bounds. Assumes nothing.
use Prim.Native.Nat.{ℕ, ◌*◌, ◌≤◌, ◌<◌}
use mathlib.Core.Path.{◌≡◌, refl, sym, subst, ◌∙◌}
use native.Mathlib.Omega.{arith}
use native.Mathlib.Nat.{mul-le-mul}
use mathlib.Core.List.{List, [], ◌∷◌}
use lib.ListN.{length, get_or}
use Rattle.std.specs.List.{sum_by}
use Rattle.std.proofs.lemmas.List.Sums.{sum_by-cons, get_or-le-sum_by}
use Rattle.arith.specs.Quotient.{quotient_up, quotient_up_law, quotient_up_least}
use Rattle.arith.specs.Root.{root_up}
use Rattle.arith.proofs.Squares.{square_at_most}
use Rattle.arith.proofs.Roots.{root_up_law}
use Rattle.sensor.specs.Sensor.{SensorRules}
use Rattle.sensor.specs.declared.Sensor.{Sensor}
use Rattle.loss.specs.Measured.{grains_up, temperature_on_sensitivity, temperature_on_zero, calibration, parasitic_loads, sensor_uncertainty, uncertainty_law, sensor_steps, scaled_uncertainty, sum_of_squares}

-- ---- U

-- the largest U
pub uncertainty_at_most : {a b g h : ℕ} → a ≤ 25000000 → b ≤ 25000000 → g ≤ 5000000 → h ≤ 5000000 → sensor_uncertainty a b g h ≤ 43000000
uncertainty_at_most {a} {b} {g} {h} p q r s =
    (uncertainty_law a b g h).least 43000000 (omega (arith, square_at_most p, square_at_most q, square_at_most r, square_at_most s))

-- ---- the largest parts of a sensor whose numbers are in their ranges

quotient_at_most : (n d k : ℕ) → 0 < d → n ≤ k * d → quotient_up n d ≤ k
quotient_at_most n d k h l = quotient_up_least (quotient_up_law n d h) k l

module _ {sensor : Sensor} (rules : SensorRules sensor) where
  pub sensitivity_at_most : {C : ℕ} → C ≤ 5000000 → grains_up (temperature_on_sensitivity sensor C) ≤ 25000000
  unfolding grains_up temperature_on_sensitivity
  sensitivity_at_most {C} h =
      quotient_at_most _ _ 25000000 (omega (arith, rules.span.0)) (omega (arith, rules.span.0, mul-le-mul (mul-le-mul rules.sensitivity.1 rules.difference.1) h))

  pub zero_at_most : grains_up (temperature_on_zero sensor) ≤ 25000000
  unfolding grains_up temperature_on_zero
  zero_at_most =
      quotient_at_most _ _ 25000000 (omega (arith, rules.span.0)) (omega (arith, rules.span.0, mul-le-mul (mul-le-mul rules.zero.1 rules.difference.1) rules.nominal.1))

  pub calibration_at_most : grains_up (calibration sensor) ≤ 5000000
  unfolding grains_up calibration
  calibration_at_most =
      quotient_at_most _ _ 5000000 (omega (arith, rules.advancement.0)) (omega (arith, rules.advancement.0, mul-le-mul rules.calibration.1 rules.nominal.1))

  pub parasitic_at_most : grains_up (parasitic_loads sensor) ≤ 5000000
  unfolding grains_up parasitic_loads
  parasitic_at_most =
      quotient_at_most _ _ 5000000 (omega arith) (omega (arith, mul-le-mul (mul-le-mul rules.parasitic.1 rules.share.1) rules.nominal.1))

  pub steps_at_most : {C : ℕ} → C ≤ 5000000 → (sensor_steps sensor C).uncertainty ≤ 43000000
  unfolding sensor_steps
  steps_at_most h = uncertainty_at_most (sensitivity_at_most h) zero_at_most calibration_at_most parasitic_at_most

-- ---- scaled by a factor, and summed

-- by a factor of at most so many times 1,000
pub scaled_at_most : {factor U : ℕ} (times : ℕ) → factor ≤ 1000 * times → U ≤ 43000000 → scaled_uncertainty factor U ≤ 43000000 * times
unfolding scaled_uncertainty
scaled_at_most {factor} {U} times h k = quotient_at_most (U * factor) 1000 (43000000 * times) (omega arith) (omega (arith, mul-le-mul h k))

-- with the factor 1,000 it is U itself
pub scaled_by_one : (U : ℕ) → scaled_uncertainty 1000 U ≡ U
unfolding scaled_uncertainty
scaled_by_one U = let u = quotient_up_law (U * 1000) 1000 (omega arith) in omega (arith, u.not_below, u.near)

-- the sum of the squares, as a sum over the list
pub squares_are : (vs : List ℕ) → sum_by (λ v. v * v) vs ≡ sum_of_squares vs
squares_are [] = refl
squares_are (v ∷ vs) = sum_by-cons (λ v. v * v) v vs ∙ rw (squares_are vs) refl

pub square_within : (vs : List ℕ) (i v : ℕ) → i < length vs → v ≡ get_or vs i v → v * v ≤ sum_of_squares vs
square_within vs i v h e =
    rw (← squares_are vs) (subst (λ w. w * w ≤ sum_by (λ v. v * v) vs) (sym e) (get_or-le-sum_by (λ v. v * v) vs i v h))

pub root_at_most : (n most : ℕ) → n ≤ most * most → root_up n ≤ most
root_at_most n most h = (root_up_law n).least most h
