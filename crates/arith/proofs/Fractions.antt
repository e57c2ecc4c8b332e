-- Laws of fractions: which value each has, and what its order says of the values. Assumes nothing.
use Prim.Native.Nat.{ℕ, suc, ◌+◌, ◌*◌, ◌-◌, ◌≤◌, ◌<◌, max}
use mathlib.Core.Path.{◌≡◌, refl, ap}
use mathlib.Core.Bool.{Bool, true, false, cond}
use native.Mathlib.Omega.{arith, by_contra}
use native.Mathlib.Decide.{dec_le}
use mathlib.Core.Logic.{◌⊎◌, inl, inr}
use native.Mathlib.Nat.{add-mul, mul-pos, mul-le-mul_right, le_of_mul-le-mul_right, eq_of_mul-eq-mul_right, le_of_lt}
use borrow.Author.Tests.{leb-true, leb-false}
use lib.Dec.{leb}
use lib.IntN.{ℤ, pos, negsuc}
use Rattle.arith.specs.Fraction.{Fraction, ◌less◌over◌, ◌over◌, whole, signed, ◌⊕◌, ◌⊖◌, ◌⊗◌, cleared, ◌≼◌, ◌≺◌, larger, RoundsUp}

-- x has the value (p - m) / d
pub record Is (x : Fraction) (p m d : ℕ) : Type 0 where
  pub pos : 0 < d
  pub same : x.plus * d + m * x.den ≡ p * x.den + x.minus * d

-- an equation times k
times_both_sides : {a b : ℕ} (k : ℕ) → a ≡ b → a * k ≡ b * k
times_both_sides k e = ap (λ (n : ℕ). n * k) e

-- every fraction has the value that its own numbers give
pub is_itself : (x : Fraction) → Is x x.plus x.minus x.den
is_itself x = record { pos = x.above; same = omega arith }

-- the named fractions
pub is_less : (a b d : ℕ) → 0 < d → Is (a less b over d) a b d
unfolding ◌less◌over◌
is_less a b d h = let e : max d 1 ≡ d = omega arith in record { pos = h; same = rw e (omega arith) }

pub is_over : (n d : ℕ) → 0 < d → Is (n over d) n 0 d
unfolding ◌over◌
is_over n d h = is_less n 0 d h

pub is_whole : (n : ℕ) → Is (whole n) n 0 1
unfolding whole
is_whole n = is_over n 1 (omega arith)

pub is_signed_pos : (n : ℕ) → Is (signed (pos n)) n 0 1
unfolding signed
is_signed_pos n = is_less n 0 1 (omega arith)

pub is_signed_negsuc : (n : ℕ) → Is (signed (negsuc n)) 0 (suc n) 1
unfolding signed
is_signed_negsuc n = is_less 0 (suc n) 1 (omega arith)

-- the same value by other numbers
pub is_also : {x : Fraction} {p m d : ℕ} (p' m' d' : ℕ) → 0 < d' → p * d' + m' * d ≡ p' * d + m * d' → Is x p m d → Is x p' m' d'
is_also {x} {p} {m} {d} p' m' d' h e i =
    record {
      pos = h;
      same = eq_of_mul-eq-mul_right d i.pos _ _ (omega (arith, times_both_sides d' i.same, times_both_sides x.den e));
    }

-- a fraction expanded to a multiple of its denominator
pub is_expanded : {x : Fraction} {p m d : ℕ} (r D : ℕ) → 0 < D → D ≡ d * r → Is x p m d → Is x (p * r) (m * r) D
is_expanded {x} {p} {m} {d} r D h e i = is_also (p * r) (m * r) D h (omega (arith, ap (λ (n : ℕ). p * n) e, ap (λ (n : ℕ). m * n) e)) i

-- the subtraction carried out, where it leaves nothing negative
pub is_subtracted : {x : Fraction} {p m d : ℕ} → m ≤ p → Is x p m d → Is x (p - m) 0 d
is_subtracted {x} {p} {m} {d} h i = let e : p - m + m ≡ p = omega arith in is_also (p - m) 0 d i.pos (omega (arith, times_both_sides d e)) i

-- sum and difference over one denominator
pub is_sum : {x y : Fraction} {p m p' m' d : ℕ} → Is x p m d → Is y p' m' d → Is (x ⊕ y) (p + p') (m + m') d
unfolding ◌⊕◌
is_sum {x} {y} i j = record { pos = i.pos; same = omega (arith, times_both_sides y.den i.same, times_both_sides x.den j.same) }

pub is_difference : {x y : Fraction} {p m p' m' d : ℕ} → Is x p m d → Is y p' m' d → Is (x ⊖ y) (p + m') (m + p') d
unfolding ◌⊖◌
is_difference {x} {y} i j = record { pos = i.pos; same = omega (arith, times_both_sides y.den i.same, times_both_sides x.den j.same) }

-- four factors in another order
reorder_acbd : (a b c d : ℕ) → a * b * (c * d) ≡ a * c * (b * d)
reorder_acbd a b c d = omega arith

reorder_acdb : (a b c d : ℕ) → a * b * (c * d) ≡ a * c * (d * b)
reorder_acdb a b c d = omega arith

reorder_adbc : (a b c d : ℕ) → a * b * (c * d) ≡ a * d * (b * c)
reorder_adbc a b c d = omega arith

reorder_adcb : (a b c d : ℕ) → a * b * (c * d) ≡ a * d * (c * b)
reorder_adcb a b c d = omega arith

-- the product of two equations, term by term
product_equation : (P N Q M R K S L : ℕ) → P + N ≡ Q + M → R + K ≡ S + L → P * R + M * L + (Q * K + N * S) ≡ Q * S + N * K + (P * L + M * R)
product_equation P N Q M R K S L h k = omega (arith, times_both_sides R h, times_both_sides L h, times_both_sides Q k, times_both_sides N k)

-- the product, over the product of the denominators
pub is_product : {x y : Fraction} {p m d p' m' d' : ℕ} → Is x p m d → Is y p' m' d' → Is (x ⊗ y) (p * p' + m * m') (p * m' + m * p') (d * d')
unfolding ◌⊗◌
is_product {x} {y} {p} {m} {d} {p'} {m'} {d'} i j =
    record {
      pos = mul-pos i.pos j.pos;
      same = expanded_equation x.plus x.minus x.den y.plus y.minus y.den
          (product_equation (x.plus * d) (m * x.den) (p * x.den) (x.minus * d) (y.plus * d') (m' * y.den) (p' * y.den) (y.minus * d') i.same j.same);
    }
  where
    expanded_equation : (a b e s t r : ℕ) → a * d * (s * d') + b * d * (t * d') + (p * e * (m' * r) + m * e * (p' * r)) ≡ p * e * (p' * r) + m * e * (m' * r) + (a * d * (t * d') + b * d * (s * d')) →
        (a * s + b * t) * (d * d') + (p * m' + m * p') * (e * r) ≡ (p * p' + m * m') * (e * r) + (a * t + b * s) * (d * d')
    expanded_equation a b e s t r h =
        simp add-mul (omega (arith, h, reorder_acbd a d s d', reorder_acbd b d t d', reorder_acbd p e m' r, reorder_acbd m e p' r, reorder_acbd p e p' r, reorder_acbd m e m' r, reorder_acbd a d t d', reorder_acbd b d s d'))

-- the values' difference, by the fractions' own numbers (a b e, s t r) and by others (p m d, p' m' d')
order_equation : (a b e s t r p m d p' m' d' : ℕ) → a * d + m * e ≡ p * e + b * d → s * d' + m' * r ≡ p' * r + t * d' →
    (p * d' + m' * d) * (e * r) + (s * e + b * r) * (d * d') ≡ (a * r + t * e) * (d * d') + (p' * d + m * d') * (e * r)
order_equation a b e s t r p m d p' m' d' h k =
    simp add-mul
    (omega (
      arith,
      simp add-mul at (times_both_sides (d' * r) h),
      simp add-mul at (times_both_sides (d * e) k),
      reorder_acbd p d' e r,
      reorder_acbd m d' e r,
      reorder_acdb a r d d',
      reorder_acdb b r d d',
      reorder_adbc m' d e r,
      reorder_adbc p' d e r,
      reorder_adcb s e d d',
      reorder_adcb t e d d',
    ))

-- an order that holds after scaling holds before it
at_most_of_scaled : (A B C D k l : ℕ) → 0 < k → C ≤ D → C * l + B * k ≡ A * k + D * l → A ≤ B
at_most_of_scaled A B C D k l h c e = le_of_mul-le-mul_right {k = k} (omega (arith, mul-le-mul_right l c)) h

-- x is at most y just where their values are so ordered
module _ {x y : Fraction} {p m d p' m' d' : ℕ} (i : Is x p m d) (j : Is y p' m' d') where
  pub at_most : p * d' + m' * d ≤ p' * d + m * d' → x ≼ y
  unfolding ◌≼◌
  at_most h = at_most_of_scaled _ _ _ _ (d * d') (x.den * y.den) (mul-pos i.pos j.pos) h (order_equation _ _ _ _ _ _ p m d p' m' d' i.same j.same)

  pub at_most_of : x ≼ y → p * d' + m' * d ≤ p' * d + m * d'
  unfolding ◌≼◌
  at_most_of h = at_most_of_scaled _ _ _ _ (x.den * y.den) (d * d') (mul-pos x.above y.above) h (omega (arith, order_equation x.plus x.minus x.den y.plus y.minus y.den p m d p' m' d' i.same j.same))

-- at most and less than exclude each other, and one of them holds
pub at_most_of_not_below : (x y : Fraction) → (y ≺ x → ⊥) → x ≼ y
unfolding ◌≼◌ ◌≺◌
at_most_of_not_below x y h = by_contra _ _ (λ l. h (omega arith))

below_of_not_at_most : (x y : Fraction) → (y ≼ x → ⊥) → x ≺ y
unfolding ◌≼◌ ◌≺◌
below_of_not_at_most x y h = by_contra _ _ (λ l. h (omega arith))

pub not_both : (x y : Fraction) → x ≺ y → y ≼ x → ⊥
unfolding ◌≼◌ ◌≺◌
not_both x y a b = omega arith

-- x is less than y just where their values are so ordered
module _ {x y : Fraction} {p m d p' m' d' : ℕ} (i : Is x p m d) (j : Is y p' m' d') where
  pub below : p * d' + m' * d < p' * d + m * d' → x ≺ y
  below h = below_of_not_at_most x y (λ l. omega (arith, at_most_of j i l))

  pub below_of : x ≺ y → p * d' + m' * d < p' * d + m * d'
  below_of h = by_contra _ _ (λ l. not_both x y h (at_most j i (omega arith)))

-- ---- values that are not negative, and whole numbers added

pub is_natural_product : {x y : Fraction} {n d n' d' : ℕ} → Is x n 0 d → Is y n' 0 d' → Is (x ⊗ y) (n * n') 0 (d * d')
is_natural_product {n = n} {d = d} {n' = n'} {d' = d'} i j = is_also (n * n') 0 (d * d') (mul-pos i.pos j.pos) (omega arith) (is_product i j)

pub is_plus_whole : {x : Fraction} {p m d : ℕ} (n : ℕ) → Is x p m d → Is (x ⊕ whole n) (p + n * d) m d
is_plus_whole {p = p} {m = m} {d = d} n i =
    is_also (p + n * d) m d i.pos (omega arith) (is_sum i (is_also (n * d) 0 d i.pos (omega arith) (is_whole n)))

-- what the test of `larger` tells
at_most_of_test : (x y : Fraction) → leb (cleared x y) (cleared y x) ≡ true → x ≼ y
unfolding ◌≼◌
at_most_of_test x y e = leb-true _ _ e

at_least_of_test : (x y : Fraction) → leb (cleared x y) (cleared y x) ≡ false → y ≼ x
unfolding ◌≼◌
at_least_of_test x y e = le_of_lt (leb-false _ _ e)

natural_order : {x y : Fraction} {n n' d : ℕ} → Is x n 0 d → Is y n' 0 d → x ≼ y → n ≤ n'
natural_order {n = n} {n' = n'} {d = d} i j l = le_of_mul-le-mul_right {k = d} (omega (arith, at_most_of i j l)) i.pos

pub is_larger : {x y : Fraction} {n n' d : ℕ} → Is x n 0 d → Is y n' 0 d → Is (larger x y) (max n n') 0 d
unfolding larger
is_larger {x} {y} {n} {n'} {d} i j = go (leb (cleared x y) (cleared y x)) refl
  where
    go : (t : Bool) → leb (cleared x y) (cleared y x) ≡ t → Is (cond t y x) (max n n') 0 d
    go true e = let s : max n n' ≡ n' = omega (arith, natural_order i j (at_most_of_test x y e)) in rw s j
    go false e = let s : max n n' ≡ n = omega (arith, natural_order j i (at_least_of_test x y e)) in rw s i

-- ---- laws of the order

-- of two fractions one is at most the other
pub at_most_total : (x y : Fraction) → (x ≼ y) ⊎ (y ≼ x)
unfolding ◌≼◌
at_most_total x y = go (dec_le (cleared x y) (cleared y x))
  where
    go : Dec (cleared x y ≤ cleared y x) → (cleared x y ≤ cleared y x) ⊎ (cleared y x ≤ cleared x y)
    go (yes l) = inl l
    go (no l) = inr (omega arith)

pub at_most_itself : (x : Fraction) → x ≼ x
unfolding ◌≼◌
at_most_itself x = omega arith

pub at_most_trans : (x y z : Fraction) → x ≼ y → y ≼ z → x ≼ z
unfolding ◌≼◌
at_most_trans x y z h k =
    le_of_mul-le-mul_right {k = y.den} (omega (arith, mul-le-mul_right z.den h, mul-le-mul_right x.den k)) y.above

pub below_trans : (x y z : Fraction) → x ≺ y → y ≼ z → x ≺ z
below_trans x y z h k = below_of_not_at_most x z (λ l. not_both x y h (at_most_trans y z x k l))

pub plus_at_most : (x y : Fraction) (n : ℕ) → x ≼ y → x ⊕ whole n ≼ y ⊕ whole n
plus_at_most x y n h =
    at_most (is_plus_whole n (is_itself x)) (is_plus_whole n (is_itself y)) (omega (arith, at_most_of (is_itself x) (is_itself y) h))

-- ---- rounding up

-- equal fractions round up to the same number
pub rounds_up_same : (x y : Fraction) (z : ℤ) → x ≼ y → y ≼ x → RoundsUp x z → RoundsUp y z
rounds_up_same x y z h k r = record {
  not_below = at_most_trans y x (signed z) k r.not_below;
  near = below_trans (signed z) (x ⊕ whole 1) (y ⊕ whole 1) r.near (plus_at_most x y 1 h);
}
