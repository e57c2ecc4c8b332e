-- Laws of rounding a fraction up. Assumes nothing.
use Prim.Native.Nat.{ℕ, ◌+◌, ◌*◌, ◌-◌, ◌≤◌, ◌<◌}
use mathlib.Core.Path.{◌≡◌, sym, ap, ◌∙◌}
use native.Mathlib.Omega.{arith}
use native.Mathlib.Decide.{dec_le}
use native.Mathlib.Nat.{mul-le-mul_right, le_of_mul-le-mul_right, lt_of_mul-lt-mul_right, mul-lt-mul_of_pos_right}
use lib.IntN.{pos}
use Rattle.arith.specs.Quotient.{quotient_up, QuotientUp, quotient_up_law}
use Rattle.arith.specs.Fraction.{Fraction, whole, ◌≼◌, Same, RoundsUp, round_up}
use Rattle.arith.proofs.Quotients.{is_quotient_up}
use Rattle.arith.proofs.Fractions.{Is, is_itself, is_whole, is_signed_pos, is_plus_whole, at_most, at_most_of, below}

-- it looks at the value alone
pub round_up_is : {x : Fraction} {p m d : ℕ} → Is x p m d → round_up x ≡ quotient_up (p - m) d
unfolding round_up
round_up_is {x} {p} {m} {d} i =
    sym (is_quotient_up x.above (record {
      not_below = le_of_mul-le-mul_right {k = d} (omega (arith, scaled, mul-le-mul_right x.den u.not_below)) i.pos;
      near = lt_of_mul-lt-mul_right d (omega (arith, scaled, mul-lt-mul_of_pos_right u.near x.above));
    }))
  where
    u : QuotientUp (p - m) d (quotient_up (p - m) d)
    u = quotient_up_law (p - m) d i.pos

    scaled : (x.plus - x.minus) * d ≡ (p - m) * x.den
    scaled = go (dec_le m p)
      where
        go : Dec (m ≤ p) → (x.plus - x.minus) * d ≡ (p - m) * x.den
        go (yes h) =
            let a : x.minus ≤ x.plus = le_of_mul-le-mul_right {k = d} (omega (arith, i.same, mul-le-mul_right x.den h)) i.pos in
            let b : x.plus - x.minus + x.minus ≡ x.plus = omega arith in
            let c : p - m + m ≡ p = omega arith in
            omega (arith, i.same, ap (λ (n : ℕ). n * d) b, ap (λ (n : ℕ). n * x.den) c)
        go (no h) =
            let l : p < m = omega arith in
            let a : x.plus ≤ x.minus = le_of_mul-le-mul_right {k = d} (omega (arith, i.same, mul-le-mul_right x.den l)) i.pos in
            let b : x.plus - x.minus ≡ 0 = omega arith in
            let c : p - m ≡ 0 = omega arith in
            rw (b, c) (omega arith)

pub round_up_natural : {x : Fraction} {n d : ℕ} → Is x n 0 d → round_up x ≡ quotient_up n d
round_up_natural {n = n} {d = d} i =
    let z : n - 0 ≡ n = omega arith in
    round_up_is i ∙ ap (λ (k : ℕ). quotient_up k d) z

-- the number that it gives, in numbers
pub round_up_law : {x : Fraction} {p m d : ℕ} → Is x p m d → QuotientUp (p - m) d (round_up x)
round_up_law {p = p} {m = m} {d = d} i = rw (round_up_is i) (quotient_up_law (p - m) d i.pos)

-- of a fraction that is not negative, it is the whole number not below it and less than one above it
pub round_up_rounds : (x : Fraction) → whole 0 ≼ x → RoundsUp x (pos (round_up x))
round_up_rounds x h =
    let i = is_itself x in
    let n : x.minus ≤ x.plus = omega (arith, at_most_of (is_whole 0) i h) in
    let u = round_up_law i in
    record {
      not_below = at_most i (is_signed_pos (round_up x)) (omega (arith, u.not_below));
      near = below (is_signed_pos (round_up x)) (is_plus_whole 1 i) (omega (arith, u.near));
    }

-- and so two fractions of one value are rounded up to the same number
pub round_up_same : (x y : Fraction) → Same x y → round_up x ≡ round_up y
round_up_same x y s =
    let i = is_itself y in
    let j : Is x y.plus y.minus y.den = record { pos = y.above; same = omega (arith, at_most_of (is_itself x) i s.0, at_most_of i (is_itself x) s.1) } in
    round_up_is j ∙ sym (round_up_is i)
