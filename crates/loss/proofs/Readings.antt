-- The loss uncertainty over any list of readings: not below the exact root, and less than what is allowed above it. Assumes nothing.
use Prim.Native.Nat.{ℕ, ◌+◌, ◌*◌, ◌-◌, ◌≤◌, ◌<◌}
use mathlib.Core.Path.{◌≡◌, refl}
use mathlib.Core.List.{List, [], ◌∷◌, map}
use native.Mathlib.Omega.{arith}
use native.Mathlib.Nat.{mul-le-mul_left, mul-le-mul_right, le_of_mul-le-mul_right, mul-pos}
use Rattle.arith.specs.Quotient.{QuotientUp, quotient_up_law}
use Rattle.arith.specs.Root.{RootUp}
use Rattle.arith.specs.Fraction.{Fraction, ◌over◌, whole, ◌⊕◌, ◌⊗◌, ◌≼◌}
use Rattle.arith.proofs.Squares.{square_at_most}
use Rattle.arith.proofs.Roots.{root_up_law}
use Rattle.arith.proofs.Fractions.{Is, is_itself, is_over, is_whole, is_also, is_subtracted, is_sum, is_natural_product, is_plus_whole, at_most, at_most_of}
use Rattle.sensor.specs.Sensor.{SensorRules}
use Rattle.sensor.specs.declared.Sensor.{Sensor}
use Rattle.loss.specs.Measured.{grains_up, temperature_on_sensitivity, temperature_on_zero, calibration, parasitic_loads, four_squares, LeastUncertainty, uncertainty_law, sensor_steps, SensorReading, scaled_uncertainty, reading_uncertainty, sum_of_squares, loss_uncertainty, from_grains}
use Rattle.loss.specs.Exact.{unrounded, sensor_square, root_square}
use Rattle.loss.proofs.Roots.{sensor_enough, sensor_near, Term, used_squares, exact_squares, slacks, TermsWithin, root_within}
use Rattle.loss.proofs.OneDenominator.{not_negative_of}

-- ---- one sensor, its exact parts over one denominator

-- R and k are not 0, so that the parts are what they are written as
pub record Divisible (sensor : Sensor) : Type 0 where
  pub span : 0 < sensor.span
  pub advancement : 0 < sensor.advancement

pub rules_divisible : {sensor : Sensor} → SensorRules sensor → Divisible sensor
rules_divisible r = record { span = omega (arith, r.span.0); advancement = omega (arith, r.advancement.0) }

module _ (s : Sensor) (C : ℕ) where
  abbrev pub common : ℕ
  common = 100000 * (s.span * s.advancement)

  abbrev pub exact_a : ℕ
  exact_a = s.sensitivity * s.difference * C * s.advancement

  abbrev pub exact_b : ℕ
  exact_b = s.zero * s.difference * s.nominal * (100 * s.advancement)

  abbrev pub exact_g : ℕ
  exact_g = s.calibration * s.nominal * 10 * (100000 * s.span)

  abbrev pub exact_h : ℕ
  exact_h = s.parasitic * s.share * s.nominal * (s.span * s.advancement)

  abbrev pub exact_four : ℕ
  exact_four = four_squares exact_a exact_b exact_g exact_h

  abbrev pub U : ℕ
  U = (sensor_steps s C).uncertainty

-- a quotient rounded up is the same over a multiple of its denominator
scaled_quotient : {n d q : ℕ} (m x D : ℕ) → 0 < m → x ≡ n * m → D ≡ d * m → QuotientUp n d q → QuotientUp x D q
scaled_quotient {n} {d} {q} m x D h e f u =
    rw (e, f) (record { not_below = omega (arith, mul-le-mul_right m u.not_below); near = omega (arith, mul-le-mul_right m u.near) })

module _ (s : Sensor) (C : ℕ) (ok : Divisible s) where
  both : 0 < s.span * s.advancement
  both = mul-pos ok.span ok.advancement

  pub common_positive : 0 < common s C
  common_positive = omega (arith, both)

  round_a : QuotientUp (exact_a s C) (common s C) (grains_up (temperature_on_sensitivity s C))
  unfolding grains_up temperature_on_sensitivity
  round_a = scaled_quotient s.advancement _ (common s C) ok.advancement refl (omega arith) (quotient_up_law _ _ (omega (arith, ok.span)))

  round_b : QuotientUp (exact_b s C) (common s C) (grains_up (temperature_on_zero s))
  unfolding grains_up temperature_on_zero
  round_b = scaled_quotient (100 * s.advancement) _ (common s C) (omega (arith, ok.advancement)) refl (omega arith) (quotient_up_law _ _ (omega (arith, ok.span)))

  round_g : QuotientUp (exact_g s C) (common s C) (grains_up (calibration s))
  unfolding grains_up calibration
  round_g = scaled_quotient (100000 * s.span) _ (common s C) (omega (arith, ok.span)) refl (omega arith) (quotient_up_law _ _ ok.advancement)

  round_h : QuotientUp (exact_h s C) (common s C) (grains_up (parasitic_loads s))
  unfolding grains_up parasitic_loads
  round_h = scaled_quotient (s.span * s.advancement) _ (common s C) both refl (omega arith) (quotient_up_law _ _ (omega arith))

  law : LeastUncertainty (grains_up (temperature_on_sensitivity s C)) (grains_up (temperature_on_zero s)) (grains_up (calibration s)) (grains_up (parasitic_loads s)) (U s C)
  unfolding sensor_steps
  law = uncertainty_law _ _ _ _

  pub U-enough : exact_four s C ≤ 3 * (U s C * common s C * (U s C * common s C))
  U-enough = sensor_enough _ _ _ _ _ _ _ _ _ _ common_positive round_a round_b round_g round_h law

  pub U-near : 3 * ((U s C - 4) * common s C * ((U s C - 4) * common s C)) ≤ exact_four s C
  U-near = sensor_near _ _ _ _ _ _ _ _ _ _ common_positive round_a round_b round_g round_h law

-- ---- its square as a fraction, in hundredths of Nm squared

-- n / d grains
is_unrounded : {x : Fraction} {n d : ℕ} → Is x n 0 d → Is (x ⊗ (1 over 100)) n 0 (100 * d)
is_unrounded {n = n} {d = d} i = is_also n 0 (100 * d) (omega (arith, i.pos)) (omega arith) (is_natural_product i (is_over 1 100 (omega arith)))

is_four_thirds : {a b g h : Fraction} {p q r s D : ℕ} → Is a p 0 D → Is b q 0 D → Is g r 0 D → Is h s 0 D →
    Is ((4 over 3) ⊗ (a ⊗ a ⊕ b ⊗ b ⊕ whole 3 ⊗ g ⊗ g ⊕ h ⊗ h)) (four_squares p q r s) 0 (3 * (D * D))
is_four_thirds {r = r} {D = D} ia ib ig ih =
    is_natural_product (is_over 4 3 (omega arith))
    (is_sum (is_sum (is_sum (is_natural_product ia ia) (is_natural_product ib ib))
    (is_also (3 * (r * r)) 0 (D * D) (mul-pos ig.pos ig.pos) (omega arith) (is_natural_product (is_natural_product (is_whole 3) ig) ig)))
    (is_natural_product ih ih))

module _ (s : Sensor) (C : ℕ) (ok : Divisible s) where
  sensor_square_is : Is (sensor_square s C) (exact_four s C) 0 (3 * (100 * common s C * (100 * common s C)))
  unfolding sensor_square unrounded temperature_on_sensitivity temperature_on_zero calibration parasitic_loads
  sensor_square_is =
      let D : ℕ = common s C in
      let pos : 0 < D = common_positive s C ok in
      is_four_thirds
      (is_unrounded (is_also (exact_a s C) 0 D pos (omega arith) (is_over (s.sensitivity * s.difference * C) (100000 * s.span) (omega (arith, ok.span)))))
      (is_unrounded (is_also (exact_b s C) 0 D pos (omega arith) (is_over (s.zero * s.difference * s.nominal) (1000 * s.span) (omega (arith, ok.span)))))
      (is_unrounded (is_also (exact_g s C) 0 D pos (omega arith) (is_over (s.calibration * s.nominal * 10) s.advancement ok.advancement)))
      (is_unrounded (is_also (exact_h s C) 0 D pos (omega arith) (is_over (s.parasitic * s.share * s.nominal) 100000 (omega arith))))

-- ---- a list of readings

abbrev pub AllDivisible : List SensorReading → Type 0
AllDivisible [] = Unit {0}
AllDivisible (r ∷ rs) = Divisible r.sensor × AllDivisible rs

abbrev den : SensorReading → ℕ
den r = common r.sensor r.torque

abbrev numerator : SensorReading → ℕ
numerator r = r.factor * r.factor * exact_four r.sensor r.torque

abbrev dens : List SensorReading → ℕ
dens [] = 1
dens (r ∷ rs) = den r * dens rs

abbrev numerators : List SensorReading → ℕ
numerators [] = 0
numerators (r ∷ rs) = numerator r * (dens rs * dens rs) + numerators rs * (den r * den r)

-- how far the loss uncertainty may be above the exact root, in thousandths of a grain: each U by 4 grains times its factor, and each scaled U by one more
abbrev pub allowed : List SensorReading → ℕ
allowed [] = 0
allowed (r ∷ rs) = 4 * r.factor + 1000 + allowed rs

dens_positive : (rs : List SensorReading) → AllDivisible rs → 0 < dens rs
dens_positive [] ok = omega arith
dens_positive (r ∷ rs) ok = mul-pos (common_positive r.sensor r.torque ok.0) (dens_positive rs ok.1)

-- factor times factor times the sensor's square
scaled_square : (D : ℕ) {f x : Fraction} {R S : ℕ} → Is f R 0 1000 → Is x S 0 (3 * (100 * D * (100 * D))) → Is (f ⊗ f ⊗ x) (R * R * S) 0 (3 * (100000 * D * (100000 * D)))
scaled_square D {R = R} {S = S} i j =
    is_also (R * R * S) 0 (3 * (100000 * D * (100000 * D))) (omega (arith, j.pos)) (omega arith) (is_natural_product (is_natural_product i i) j)

-- two of them over both denominators
added_squares : {x y : Fraction} {S T D E : ℕ} → 0 < D → 0 < E → Is x S 0 (3 * (100000 * D * (100000 * D))) → Is y T 0 (3 * (100000 * E * (100000 * E))) →
    Is (x ⊕ y) (S * (E * E) + T * (D * D)) 0 (3 * (100000 * (D * E) * (100000 * (D * E))))
added_squares {S = S} {T = T} {D = D} {E = E} p q i j =
    let h : 0 < 100000 * (D * E) = omega (arith, mul-pos p q) in
    let pos : 0 < 3 * (100000 * (D * E) * (100000 * (D * E))) = omega (arith, mul-pos h h) in
    is_sum
    (is_also (S * (E * E)) 0 (3 * (100000 * (D * E) * (100000 * (D * E)))) pos (omega arith) i)
    (is_also (T * (D * D)) 0 (3 * (100000 * (D * E) * (100000 * (D * E)))) pos (omega arith) j)

root_square_is : (rs : List SensorReading) → AllDivisible rs → Is (root_square rs) (numerators rs) 0 (3 * (100000 * dens rs * (100000 * dens rs)))
unfolding root_square
root_square_is [] ok = is_also 0 0 _ (omega arith) (omega arith) (is_whole 0)
root_square_is (r ∷ rs) ok =
    added_squares (common_positive r.sensor r.torque ok.0) (dens_positive rs ok.1)
    (scaled_square (den r) (is_over r.factor 1000 (omega arith)) (sensor_square_is r.sensor r.torque ok.0))
    (root_square_is rs ok.1)

-- ---- not below

-- the scaled uncertainty is a quotient rounded up
scaled_law : (r : SensorReading) → QuotientUp (U r.sensor r.torque * r.factor) 1000 (reading_uncertainty r)
unfolding reading_uncertainty scaled_uncertainty
scaled_law r = quotient_up_law _ 1000 (omega arith)

-- in numbers: factor R, the sensor's F, its U and its denominator D, and the scaled uncertainty Y
scaled_enough : (R F U D Y : ℕ) → F ≤ 3 * (U * D * (U * D)) → U * R ≤ Y * 1000 → R * R * F ≤ 3 * (1000 * D * (1000 * D)) * (Y * Y)
scaled_enough R F U D Y h k = omega (arith, mul-le-mul_left (R * R) h, mul-le-mul_left (D * D) (square_at_most k))

-- two of them, over both denominators
added_enough : (S T D E y z : ℕ) → S ≤ 3 * (1000 * D * (1000 * D)) * y → T ≤ 3 * (1000 * E * (1000 * E)) * z →
    S * (E * E) + T * (D * D) ≤ 3 * (1000 * (D * E) * (1000 * (D * E))) * (y + z)
added_enough S T D E y z h k = omega (arith, mul-le-mul_right (E * E) h, mul-le-mul_right (D * D) k)

squares_enough : (rs : List SensorReading) → AllDivisible rs → numerators rs ≤ 3 * (1000 * dens rs * (1000 * dens rs)) * sum_of_squares (map reading_uncertainty rs)
squares_enough [] ok = omega arith
squares_enough (r ∷ rs) ok =
    added_enough (numerator r) (numerators rs) (den r) (dens rs) (reading_uncertainty r * reading_uncertainty r) (sum_of_squares (map reading_uncertainty rs))
    (scaled_enough r.factor (exact_four r.sensor r.torque) (U r.sensor r.torque) (den r) (reading_uncertainty r) (U-enough r.sensor r.torque ok.0) (scaled_law r).not_below)
    (squares_enough rs ok.1)

root_law : (rs : List SensorReading) → RootUp (sum_of_squares (map reading_uncertainty rs)) (loss_uncertainty (map reading_uncertainty rs))
unfolding loss_uncertainty
root_law rs = root_up_law _

grains_is : (T : ℕ) → Is (from_grains T) T 0 100
grains_is T = is_over T 100 (omega arith)

enough_scaled : (n w T D : ℕ) → n ≤ 3 * (1000 * D * (1000 * D)) * w → w ≤ T * T →
    n * (100 * 100) + 0 * (3 * (100000 * D * (100000 * D))) ≤ T * T * (3 * (100000 * D * (100000 * D))) + 0 * (100 * 100)
enough_scaled n w T D h k = omega (arith, mul-le-mul_left (3 * (1000 * D * (1000 * D))) k)

-- the square of the loss uncertainty is at least the exact square
pub root_enough : (rs : List SensorReading) → AllDivisible rs →
    root_square rs ≼ from_grains (loss_uncertainty (map reading_uncertainty rs)) ⊗ from_grains (loss_uncertainty (map reading_uncertainty rs))
root_enough rs ok =
    let T : ℕ = loss_uncertainty (map reading_uncertainty rs) in
    at_most (root_square_is rs ok) (is_natural_product (grains_is T) (grains_is T))
    (enough_scaled (numerators rs) (sum_of_squares (map reading_uncertainty rs)) T (dens rs) (squares_enough rs ok) (root_law rs).enough)

-- ---- not far above

term : ℕ → SensorReading → Term
term q r = record {
  used = reading_uncertainty r;
  exact = q * r.factor * (U r.sensor r.torque - 4);
  slack = q * (4 * r.factor + 1000);
}

terms : ℕ → List SensorReading → List Term
unfolding term
terms q [] = []
terms q (r ∷ rs) = term q r ∷ terms q rs

terms_used : (q : ℕ) (rs : List SensorReading) → used_squares (terms q rs) ≡ sum_of_squares (map reading_uncertainty rs)
unfolding terms
terms_used q [] = refl
terms_used q (r ∷ rs) = omega (arith, terms_used q rs)

terms_slack : (q : ℕ) (rs : List SensorReading) → slacks (terms q rs) ≡ q * allowed rs
unfolding terms
terms_slack q [] = omega arith
terms_slack q (r ∷ rs) = omega (arith, terms_slack q rs)

-- in numbers: factor R, U, and the scaled uncertainty Y
within_slack : (q R U Y : ℕ) → Y * 1000 < U * R + 1000 → Y * (1000 * q) ≤ q * R * (U - 4) + q * (4 * R + 1000)
within_slack q R U Y h =
    let u : U ≤ U - 4 + 4 = omega arith in
    let l : Y * 1000 ≤ U * R + 1000 = omega arith in
    omega (arith, mul-le-mul_left q l, mul-le-mul_left (q * R) u)

terms_within : (q : ℕ) (rs : List SensorReading) → TermsWithin (1000 * q) (terms q rs)
unfolding terms
terms_within q [] = tt
terms_within q (r ∷ rs) = (within_slack q r.factor (U r.sensor r.torque) (reading_uncertainty r) (scaled_law r).near, terms_within q rs)

-- in numbers: factor R, W = U - 4, the sensor's F and its denominator D
term_exact : (q R W F D : ℕ) → 3 * (W * D * (W * D)) ≤ F → 3 * (D * D) * (q * R * W * (q * R * W)) ≤ R * R * F * (q * q)
term_exact q R W F D h = omega (arith, mul-le-mul_left (q * R * (q * R)) h)

added_exact : (D E x y s t q : ℕ) → 3 * (D * D) * x ≤ s * (q * q) → 3 * (E * E) * y ≤ t * (q * q) → 3 * (D * E * (D * E)) * (x + y) ≤ (s * (E * E) + t * (D * D)) * (q * q)
added_exact D E x y s t q h k = omega (arith, mul-le-mul_right (E * E) h, mul-le-mul_right (D * D) k)

terms_exact : (q : ℕ) (rs : List SensorReading) → AllDivisible rs → 3 * (dens rs * dens rs) * exact_squares (terms q rs) ≤ numerators rs * (q * q)
unfolding terms
terms_exact q [] ok = omega arith
terms_exact q (r ∷ rs) ok =
    added_exact (den r) (dens rs) _ _ (numerator r) (numerators rs) q
    (term_exact q r.factor (U r.sensor r.torque - 4) (exact_four r.sensor r.torque) (den r) (U-near r.sensor r.torque ok.0))
    (terms_exact q rs ok.1)

-- in numbers: p / q hundredths are at or above the exact root
exact_at_most : (n D e p q : ℕ) → 0 < D → 3 * (D * D) * e ≤ n * (q * q) →
    n * (q * q) + 0 * (3 * (100000 * D * (100000 * D))) ≤ p * p * (3 * (100000 * D * (100000 * D))) + 0 * (q * q) → e ≤ 100000 * p * (100000 * p)
exact_at_most n D e p q pos h k = le_of_mul-le-mul_right {k = D * D} (omega arith) (mul-pos pos pos)

-- The loss uncertainty is at most a hundredth above whatever is at or above the exact root, where what is allowed is at most 99 grains.
pub root_near : (rs : List SensorReading) → AllDivisible rs → allowed rs ≤ 99000 → (y : Fraction) → whole 0 ≼ y → root_square rs ≼ y ⊗ y →
    from_grains (loss_uncertainty (map reading_uncertainty rs)) ≼ y ⊕ whole 1
root_near rs ok small y nn h =
    let T : ℕ = loss_uncertainty (map reading_uncertainty rs) in
    let p : ℕ = y.plus - y.minus in
    let q : ℕ = y.den in
    let i : Is y p 0 q = is_subtracted (not_negative_of (is_itself y) nn) (is_itself y) in
    let e : exact_squares (terms q rs) ≤ 100000 * p * (100000 * p) =
    exact_at_most (numerators rs) (dens rs) (exact_squares (terms q rs)) p q (dens_positive rs ok) (terms_exact q rs ok) (at_most_of (root_square_is rs ok) (is_natural_product i i) h) in
    let n : T * (1000 * q) < 100000 * p + slacks (terms q rs) + 1000 * q =
    root_within (1000 * q) (terms q rs) (100000 * p) T (omega (arith, y.above)) (terms_within q rs) e (rw (terms_used q rs) (root_law rs)) in
    at_most (grains_is T) (is_plus_whole 1 i) (omega (arith, n, terms_slack q rs, mul-le-mul_left q small))
