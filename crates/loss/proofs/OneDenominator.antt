-- Laws of values over one denominator, and of the larger fraction. Assumes nothing.
use Prim.Native.Nat.{ℕ, ◌+◌, ◌-◌, ◌≤◌, ◌<◌}
use mathlib.Core.Path.{◌≡◌, refl}
use mathlib.Core.Bool.{Bool, true, false, cond}
use native.Mathlib.Omega.{arith}
use native.Mathlib.Decide.{dec_le}
use native.Mathlib.Nat.{mul-le-mul_right, le_of_mul-le-mul_right, lt_of_mul-lt-mul_right, le_of_lt, mul-lt-mul_of_pos_right}
use borrow.Author.Tests.{leb-true, leb-false, ltb-true, ltb-false}
use lib.Dec.{leb, ltb}
use Rattle.arith.specs.Fraction.{Fraction, ◌over◌, whole, ◌⊖◌, cleared, ◌≼◌, ◌≺◌, larger, Same}
use Rattle.arith.proofs.Fractions.{Is, is_itself, is_whole, is_over, is_also, is_subtracted, is_difference, at_most, at_most_of, below, below_of}
use Rattle.loss.specs.PartAbove.{part_above, under_zero}

-- ---- the order of values over one denominator

module _ {x y : Fraction} {p m p' m' d : ℕ} (i : Is x p m d) (j : Is y p' m' d) where
  pub at_most_over : p + m' ≤ p' + m → x ≼ y
  at_most_over h = at_most i j (omega (arith, mul-le-mul_right d h))

  pub at_most_over_of : x ≼ y → p + m' ≤ p' + m
  at_most_over_of h = le_of_mul-le-mul_right {k = d} (omega (arith, at_most_of i j h)) i.pos

  pub below_over : p + m' < p' + m → x ≺ y
  below_over h = below i j (omega (arith, mul-lt-mul_of_pos_right h i.pos))

  pub below_over_of : x ≺ y → p + m' < p' + m
  below_over_of h = lt_of_mul-lt-mul_right d (omega (arith, below_of i j h))

-- 0 over any denominator
pub is_zero : (d : ℕ) → 0 < d → Is (whole 0) 0 0 d
is_zero d h = is_also 0 0 d h (omega arith) (is_whole 0)

-- what is not negative
pub not_negative_of : {x : Fraction} {p m d : ℕ} → Is x p m d → whole 0 ≼ x → m ≤ p
not_negative_of {d = d} i h = omega (arith, at_most_over_of (is_zero d i.pos) i h)

pub not_negative : {x : Fraction} {p m d : ℕ} → Is x p m d → m ≤ p → whole 0 ≼ x
not_negative {d = d} i h = at_most_over (is_zero d i.pos) i (omega arith)

-- the same value
pub same_is : {x : Fraction} {n d : ℕ} → 0 < d → Same (n over d) x → Is x n 0 d
same_is {x} {n} {d} h s =
    record { pos = h; same = omega (arith, at_most_of (is_over n d h) (is_itself x) s.0, at_most_of (is_itself x) (is_over n d h) s.1) }

pub is_same : {x : Fraction} {n d : ℕ} → Is x n 0 d → Same (n over d) x
is_same {n = n} {d = d} i = (at_most_over (is_over n d i.pos) i (omega arith), at_most_over i (is_over n d i.pos) (omega arith))

-- ---- the larger of two fractions, and the part of one above another

module _ {x y : Fraction} {p m p' m' d : ℕ} (i : Is x p m d) (j : Is y p' m' d) where
  pub larger_right : p + m' ≤ p' + m → Is (larger x y) p' m' d
  unfolding larger ◌≼◌
  larger_right h = go (leb (cleared x y) (cleared y x)) refl
    where
      go : (t : Bool) → leb (cleared x y) (cleared y x) ≡ t → Is (cond t y x) p' m' d
      go true e = j
      go false e =
          is_also p' m' d j.pos (omega (arith, mul-le-mul_right d h, mul-le-mul_right d (at_most_over_of j i (le_of_lt (leb-false _ _ e))))) i

  pub larger_left : p' + m ≤ p + m' → Is (larger x y) p m d
  unfolding larger ◌≼◌
  larger_left h = go (leb (cleared x y) (cleared y x)) refl
    where
      go : (t : Bool) → leb (cleared x y) (cleared y x) ≡ t → Is (cond t y x) p m d
      go true e = is_also p m d i.pos (omega (arith, mul-le-mul_right d h, mul-le-mul_right d (at_most_over_of i j (leb-true _ _ e)))) j
      go false e = i

pub is_part_above : {x y : Fraction} {n k d : ℕ} → Is x n 0 d → Is y k 0 d → Is (part_above x y) (n - k) 0 d
unfolding part_above
is_part_above {x} {y} {n} {k} {d} i j = go (dec_le k n)
  where
    zero : Is (whole 0) 0 0 d
    zero = is_zero d i.pos

    go : Dec (k ≤ n) → Is (larger (x ⊖ y) (whole 0)) (n - k) 0 d
    go (yes h) = let e : n + 0 - (0 + k) ≡ n - k = omega arith in rw (← e) (is_subtracted (omega arith) (larger_left (is_difference i j) zero (omega arith)))
    go (no h) = let z : n - k ≡ 0 = omega arith in rw z (larger_right (is_difference i j) zero (omega arith))

-- ---- under zero

pub under_zero_is : {x : Fraction} {p m d : ℕ} → Is x p m d → under_zero x ≡ ltb p m
unfolding under_zero
under_zero_is {x} {p} {m} {d} i = go (ltb x.plus x.minus) (ltb p m) refl refl
  where
    go : (s t : Bool) → ltb x.plus x.minus ≡ s → ltb p m ≡ t → s ≡ t
    go true true e f = refl
    go false false e f = refl
    go true false e f =
        let h : x.plus < x.minus = ltb-true _ _ e in
        let k : m ≤ p = ltb-false _ _ f in
        absurd (omega (arith, i.same, mul-lt-mul_of_pos_right h i.pos, mul-le-mul_right x.den k))
    go false true e f =
        let h : x.minus ≤ x.plus = ltb-false _ _ e in
        let k : p < m = ltb-true _ _ f in
        absurd (omega (arith, i.same, mul-le-mul_right d h, mul-lt-mul_of_pos_right k x.above))
