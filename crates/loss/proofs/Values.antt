-- The losses, the allowance and the entries as quotients of whole numbers. Assumes nothing.
use Prim.Native.Nat.{ℕ, ◌+◌, ◌*◌, ◌-◌, ◌≤◌, ◌<◌, max}
use mathlib.Core.Path.{◌≡◌, ◌∙◌}
use borrow.Author.Tests.{lt-ltb, le-ltb}
use native.Mathlib.Omega.{arith}
use native.Mathlib.Decide.{dec_le}
use lib.Dec.{ltb}
use Rattle.arith.specs.Quotient.{quotient_up}
use Rattle.arith.specs.Fraction.{Fraction, ◌over◌, whole, ◌⊕◌, ◌⊗◌, larger, round_up}
use Rattle.arith.proofs.Fractions.{Is, is_over, is_whole, is_also, is_subtracted, is_sum, is_difference, is_product, is_natural_product, is_larger}
use Rattle.arith.proofs.Rounding.{round_up_is, round_up_natural}
use Rattle.loss.specs.declared.Line.{Line}
use Rattle.loss.specs.Standard.{line_of, standard_loss, standard_entry}
use Rattle.std.proofs.Common.{Option, Some, None}
use Rattle.std.specs.Option.{SomeIff}
use Rattle.loss.specs.Measured.{measured_loss, loss_is_under_zero, allowance, from_grains, entry_of, LossSays}
use Rattle.loss.specs.PartAbove.{part_above}
use Rattle.loss.proofs.OneDenominator.{is_same, is_part_above, larger_right, under_zero_is}

-- ---- the standard loss

-- over 10 times the efficiency
abbrev pub standard_numerator : Line → (ratio torque : ℕ) → ℕ
standard_numerator l ratio torque = l.efficiency * l.t0 * 1000 + l.efficiency * l.t1 * ratio + 1000 * (100 - l.efficiency) * torque

pub standard_loss_is : (l : Line) (ratio torque : ℕ) → 0 < l.efficiency →
    Is (standard_loss l ratio torque) (standard_numerator l ratio torque) 0 (10 * l.efficiency)
unfolding standard_loss
standard_loss_is l ratio torque some = collect l.t0 l.t1 l.efficiency (100 - l.efficiency) some
  where
    collect : (t0 t1 e r : ℕ) → 0 < e →
        Is (whole 100 ⊗ (whole t0 ⊕ whole t1 ⊗ (ratio over 1000) ⊕ whole torque ⊗ (r over e))) (e * t0 * 1000 + e * t1 * ratio + 1000 * r * torque) 0 (10 * e)
    collect t0 t1 e r h =
        let pos : 0 < 1000 * e = omega arith in
        is_also (e * t0 * 1000 + e * t1 * ratio + 1000 * r * torque) 0 (10 * e) (omega arith) (omega arith)
        (is_natural_product (is_whole 100)
        (is_sum
        (is_sum (is_also (e * t0 * 1000) 0 (1000 * e) pos (omega arith) (is_whole t0)) (is_also (e * t1 * ratio) 0 (1000 * e) pos (omega arith) (is_natural_product (is_whole t1) (is_over ratio 1000 (omega arith)))))
        (is_also (1000 * r * torque) 0 (1000 * e) pos (omega arith) (is_natural_product (is_whole torque) (is_over r e h)))))

pub standard_entry_is : (number ratio torque : ℕ) (l : Line) → l ≡ line_of number → 0 < l.efficiency →
    standard_entry number ratio torque ≡ quotient_up (standard_numerator l ratio torque) (10 * l.efficiency)
unfolding standard_entry
standard_entry_is number ratio torque l e h = rw (← e) (round_up_natural (standard_loss_is l ratio torque h))

-- ---- the measured loss and the allowance, 20,000 to a hundredth of Nm

pub loss_is : (ratio input output : ℕ) → Is (measured_loss ratio input output) (20 * (input * ratio)) (20000 * output) 20000
unfolding measured_loss
loss_is ratio input output =
    is_also (20 * (input * ratio)) (20000 * output) 20000 (omega arith) (omega arith)
    (is_difference
    (is_also (input * ratio) 0 1000 (omega arith) (omega arith) (is_natural_product (is_whole input) (is_over ratio 1000 (omega arith))))
    (is_also (output * 1000) 0 1000 (omega arith) (omega arith) (is_whole output)))

pub under_zero_by : (ratio input output : ℕ) → loss_is_under_zero ratio input output ≡ ltb (20 * (input * ratio)) (20000 * output)
unfolding loss_is_under_zero
under_zero_by ratio input output = under_zero_is (loss_is ratio input output)

-- 5 % of the loss, which may be negative
twentieth_is : (ratio input output : ℕ) → Is ((5 over 100) ⊗ measured_loss ratio input output) (input * ratio) (1000 * output) 20000
twentieth_is ratio input output =
    is_also (input * ratio) (1000 * output) 20000 (omega arith) (omega arith)
    (is_product (is_over 5 100 (omega arith)) (loss_is ratio input output))

-- that or another number, whichever is more
pub twentieth_or_is : (ratio input output : ℕ) {least : Fraction} {n : ℕ} → Is least n 0 20000 →
    Is (larger ((5 over 100) ⊗ measured_loss ratio input output) least) (max (input * ratio - 1000 * output) n) 0 20000
twentieth_or_is ratio input output {least} {n} l = go (dec_le (1000 * output) (input * ratio))
  where
    go : Dec (1000 * output ≤ input * ratio) → Is (larger ((5 over 100) ⊗ measured_loss ratio input output) least) (max (input * ratio - 1000 * output) n) 0 20000
    go (yes h) = is_larger (is_subtracted h (twentieth_is ratio input output)) l
    go (no h) =
        let s : max (input * ratio - 1000 * output) n ≡ n = omega arith in
        rw s (larger_right (twentieth_is ratio input output) l (omega arith))

-- 1 Nm at the input
newton_metre_is : (ratio : ℕ) → Is (whole 100 ⊗ (ratio over 1000)) (2000 * ratio) 0 20000
newton_metre_is ratio = is_also (2000 * ratio) 0 20000 (omega arith) (omega arith) (is_natural_product (is_whole 100) (is_over ratio 1000 (omega arith)))

pub allowance_is : (ratio input output : ℕ) → Is (allowance ratio input output) (max (input * ratio - 1000 * output) (2000 * ratio)) 0 20000
unfolding allowance
allowance_is ratio input output = twentieth_or_is ratio input output (newton_metre_is ratio)

-- ---- the entry, for any allowance A that is not negative

pub added_is : (ratio input output uncertainty A : ℕ) {allowed : Fraction} → Is allowed A 0 20000 →
    round_up (measured_loss ratio input output ⊕ part_above (from_grains uncertainty) allowed) ≡ quotient_up (20 * (input * ratio) + (200 * uncertainty - A) - 20000 * output) 20000
added_is ratio input output uncertainty A a = round_up_is (is_also _ (20000 * output) 20000 (omega arith) (omega arith)
    (is_sum (loss_is ratio input output) (is_part_above (is_also (200 * uncertainty) 0 20000 (omega arith) (omega arith) (is_over uncertainty 100 (omega arith))) a)))

pub entry_is : (ratio input output uncertainty A : ℕ) → Is (allowance ratio input output) A 0 20000 →
    entry_of ratio input output uncertainty ≡ quotient_up (20 * (input * ratio) + (200 * uncertainty - A) - 20000 * output) 20000
unfolding entry_of
entry_is ratio input output uncertainty A a = added_is ratio input output uncertainty A a

-- ---- the measured loss as the code finds it

pub loss_says : (ratio input output : ℕ) (loss : Option ℕ) → SomeIff loss (20000 * output ≤ 20 * (input * ratio)) (20 * (input * ratio) - 20000 * output) →
    LossSays ratio input output loss
loss_says ratio input output None not_within =
    let under : 20 * (input * ratio) < 20000 * output = omega arith in
    under_zero_by ratio input output ∙ lt-ltb _ _ under
loss_says ratio input output (Some n) found =
    (under_zero_by ratio input output ∙ le-ltb _ _ found.0, rw found.1 (is_same (is_subtracted found.0 (loss_is ratio input output))))
