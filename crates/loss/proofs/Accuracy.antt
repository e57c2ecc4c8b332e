-- Exact entries of standard and measured data are numbers, and entries are never below them and less than 0.01 Nm (standard) or 0.02 Nm (measured) above. Assumes nothing.
use Prim.Native.Nat.{ℕ, zero, suc, ◌+◌, ◌*◌, ◌≤◌, ◌<◌}
use mathlib.Core.Path.{◌≡◌, refl, ap, sym, ◌∙◌}
use mathlib.Core.Bool.{false}
use mathlib.Core.List.{List, [], ◌∷◌, map}
use mathlib.Core.Logic.{inl, ⊎_elim}
use native.Mathlib.Omega.{arith}
use native.Mathlib.Nat.{mul-le-mul_right, mul-pos}
use borrow.Author.Tests.{ltb-false}
use lib.ListN.{length}
use Rattle.arith.specs.Quotient.{quotient_up}
use Rattle.arith.specs.Fraction.{Fraction, ◌less◌over◌, ◌over◌, whole, ◌⊕◌, ◌≼◌, ◌≺◌, round_up}
use Rattle.arith.proofs.Fractions.{Is, is_itself, is_less, is_whole, is_over, is_expanded, is_sum, is_plus_whole, at_most, below, below_of, at_most_itself, not_both}
use Rattle.arith.proofs.Rounding.{round_up_natural}
use Rattle.loss.specs.PartAbove.{part_above}
use Rattle.loss.specs.Standard.{line_of, standard_loss, standard_entry}
use Rattle.loss.specs.Measured.{SensorReading, reading_uncertainty, loss_uncertainty, measured_loss, loss_is_under_zero, allowance, from_grains, entry_of, Output, Row, output, output_reading, readings, row_uncertainty, measured_entry, AllInRange, RowInRange}
use Rattle.loss.specs.Exact.{Cut, IsNumber, Near, EntryAccurate, Exact, cut, exact_standard, root_square, exact_measured}
use Rattle.loss.proofs.Lines.{line_of_usable}
use Rattle.loss.proofs.OneDenominator.{not_negative, not_negative_of, is_part_above, is_zero}
use Rattle.loss.proofs.Values.{standard_numerator, standard_loss_is, loss_is, under_zero_by, allowance_is}
use Rattle.loss.proofs.Readings.{rules_divisible, AllDivisible, allowed, root_enough, root_near}
use Rattle.loss.proofs.Cuts.{square_not_negative, exact_is_number, entry_accurate}

-- ---- kind 1

module _ (number ratio torque : ℕ) where
  standard_value : Is (standard_loss (line_of number) ratio torque) (standard_numerator (line_of number) ratio torque) 0 (10 * (line_of number).efficiency)
  standard_value = standard_loss_is (line_of number) ratio torque (line_of_usable number).least

  pub standard_is_number : IsNumber (cut (exact_standard number ratio torque))
  unfolding exact_standard
  standard_is_number = exact_is_number _ (at_most_itself (whole 0))

  -- it is a fraction: the standard loss is on both sides of it
  pub standard_at_or_below : (cut (exact_standard number ratio torque)).AtOrBelow (standard_loss (line_of number) ratio torque)
  unfolding cut exact_standard
  standard_at_or_below = inl (at_most_itself _)

  pub standard_at_or_above : (cut (exact_standard number ratio torque)).AtOrAbove (standard_loss (line_of number) ratio torque)
  unfolding cut exact_standard
  standard_at_or_above = (at_most_itself _, square_not_negative _)

  no_uncertainty : round_up (standard_loss (line_of number) ratio torque ⊕ part_above (whole 0) (whole 0)) ≡ standard_entry number ratio torque
  unfolding standard_entry
  no_uncertainty =
      let zero = is_zero (10 * (line_of number).efficiency) standard_value.pos in
      round_up_natural (is_sum standard_value (is_part_above zero zero)) ∙ ap (λ (n : ℕ). quotient_up n (10 * (line_of number).efficiency)) (omega arith) ∙ sym (round_up_natural standard_value)

  pub standard_entry_accurate : EntryAccurate 1 (cut (exact_standard number ratio torque)) (standard_entry number ratio torque)
  unfolding exact_standard
  standard_entry_accurate =
      rw (← no_uncertainty)
      (entry_accurate (exact_standard number ratio torque) (whole 0) 0
      (not_negative standard_value (omega arith)) (at_most_itself (whole 0)) (at_most_itself (whole 0))
      (square_not_negative (whole 0))
      (λ y h _. not_negative (is_plus_whole 0 (is_itself y)) (omega (arith, not_negative_of (is_itself y) h))))

-- ---- kinds 2 and 3

-- For any list of readings whose allowed excess is at most 99 grains, and any allowance that is not negative.
pub readings_accurate : (x : Exact) (rs : List SensorReading) → AllDivisible rs → allowed rs ≤ 99000 →
    whole 0 ≼ x.loss → whole 0 ≼ x.allowance → x.square ≡ root_square rs →
    EntryAccurate 2 (cut x) (round_up (x.loss ⊕ part_above (from_grains (loss_uncertainty (map reading_uncertainty rs))) x.allowance))
readings_accurate x rs ok small loss allowance e =
    entry_accurate x (from_grains (loss_uncertainty (map reading_uncertainty rs))) 1 loss allowance
    (not_negative (is_over (loss_uncertainty (map reading_uncertainty rs)) 100 (omega arith)) (omega arith))
    (rw e (root_enough rs ok))
    (λ y h k. root_near rs ok small y h (rw e at k))

allowance_not_negative : (ratio input output : ℕ) → whole 0 ≼ allowance ratio input output
allowance_not_negative ratio input output = not_negative (allowance_is ratio input output) (omega arith)

loss_not_negative : (ratio input output : ℕ) → loss_is_under_zero ratio input output ≡ false → whole 0 ≼ measured_loss ratio input output
loss_not_negative ratio input output e =
    not_negative (loss_is ratio input output) (ltb-false _ _ (sym (under_zero_by ratio input output) ∙ e))

outputs_divisible : (os : List Output) → AllInRange os → AllDivisible (map output_reading os)
outputs_divisible [] r = tt
outputs_divisible (o ∷ os) r = (rules_divisible r.0, outputs_divisible os r.1)

outputs_allowed : (os : List Output) → allowed (map output_reading os) ≡ 5000 * length os
outputs_allowed [] = omega arith
outputs_allowed (o ∷ os) = omega (arith, outputs_allowed os)

pub measured_is_number : (row : Row) → IsNumber (cut (exact_measured row))
unfolding exact_measured
measured_is_number row = exact_is_number _ (allowance_not_negative row.ratio row.input (output row))

pub measured_entry_accurate : (row : Row) → RowInRange row → EntryAccurate 2 (cut (exact_measured row)) (measured_entry row)
unfolding exact_measured measured_entry entry_of row_uncertainty readings
measured_entry_accurate row r =
    readings_accurate (exact_measured row) (readings row)
    (rules_divisible r.sensor, outputs_divisible row.outputs r.outputs)
    (omega (arith, outputs_allowed row.outputs, r.ratio, r.few))
    (loss_not_negative row.ratio row.input (output row) r.loss)
    (allowance_not_negative row.ratio row.input (output row))
    refl

-- ---- a smaller excess is within a larger one

pub wider : {excess more e : ℕ} {x : Cut} → excess ≤ more → EntryAccurate excess x e → EntryAccurate more x e
wider {excess} {more} {e} l h = record { never_below = h.never_below; near = λ q a. further q (h.near q a) }
  where
    further : (q : Fraction) → whole e ≺ q ⊕ whole excess → whole e ≺ q ⊕ whole more
    further q b =
        below (is_whole e) (is_plus_whole more (is_itself q))
        (omega (arith, below_of (is_whole e) (is_plus_whole excess (is_itself q)) b, mul-le-mul_right q.den l))

-- ---- there are fractions on both sides, as near to each other as may be asked

module _ {excess e : ℕ} {x : Cut} (number : IsNumber x) (accurate : EntryAccurate excess x e) where
  above_entry : (q : Fraction) → whole e ≺ q → x.AtOrAbove q
  above_entry q h = ⊎_elim (λ a. absurd (not_both _ _ h (accurate.never_below q a))) (λ a. a) (number.side q)

  below_entry : (q : Fraction) → q ⊕ whole excess ≼ whole e → x.AtOrBelow q
  below_entry q h = ⊎_elim (λ a. a) (λ a. absurd (not_both _ _ (accurate.near q a) h)) (number.side q)

  module _ (n : ℕ) (pos : 0 < n) where
    -- k steps of 1 / (n + 1), from the excess below 0 upwards
    step : ℕ → Fraction
    step k = k less excess * (n + 1) over (n + 1)

    step_is : (k : ℕ) → Is (step k) k (excess * (n + 1)) (n + 1)
    unfolding step
    step_is k = is_less k (excess * (n + 1)) (n + 1) (omega arith)

    one_step : (k : ℕ) → step (k + 1) ≺ step k ⊕ (1 over n)
    one_step k =
        below (step_is (k + 1))
        (is_sum (is_expanded n ((n + 1) * n) (mul-pos (omega arith) pos) refl (step_is k)) (is_expanded (n + 1) ((n + 1) * n) (mul-pos (omega arith) pos) (omega arith) (is_over 1 n pos)))
        (omega (arith, mul-pos pos pos))

    -- one of the steps is the last at or below
    last_below : (k count : ℕ) → x.AtOrBelow (step k) → x.AtOrAbove (step (k + count + 1)) → Near x n
    last_below k zero b a =
        let z : k + 0 + 1 ≡ k + 1 = omega arith in
        record { below = step k; above = step (k + 1); at_or_below = b; at_or_above = rw z at a; near = one_step k }
    last_below k (suc count) b a =
        let s : k + suc count + 1 ≡ k + 1 + count + 1 = omega arith in
        ⊎_elim (λ h. last_below (k + 1) count h (rw s at a))
        (λ h. record { below = step k; above = step (k + 1); at_or_below = b; at_or_above = h; near = one_step k })
        (number.side (step (k + 1)))

    pub fractions_near : Near x n
    fractions_near =
        last_below (e * (n + 1)) (2 * excess * (n + 1))
        (below_entry _ (at_most (is_plus_whole excess (step_is (e * (n + 1)))) (is_whole e) (omega arith)))
        (above_entry _ (below (is_whole e) (step_is (e * (n + 1) + 2 * excess * (n + 1) + 1)) (omega arith)))
