-- Exact entries are numbers, and an entry whose uncertainty is near the exact root is near the exact entry. Assumes nothing.
use Prim.Native.Nat.{ℕ, ◌+◌, ◌*◌, ◌-◌, ◌≤◌, ◌<◌}
use mathlib.Core.Path.{◌≡◌}
use mathlib.Core.Logic.{◌⊎◌, inl, inr, ⊎_elim}
use native.Mathlib.Omega.{arith}
use native.Mathlib.Decide.{dec_le}
use native.Mathlib.Nat.{mul-pos, le_of_mul-le-mul_right}
use Rattle.arith.specs.Quotient.{QuotientUp}
use Rattle.arith.specs.Fraction.{Fraction, whole, ◌⊕◌, ◌⊖◌, ◌⊗◌, ◌≼◌, ◌≺◌, larger, round_up}
use Rattle.arith.proofs.Squares.{square_below}
use Rattle.arith.proofs.Fractions.{Is, is_itself, is_whole, is_also, is_expanded, is_subtracted, is_sum, is_difference, is_product, is_natural_product, is_plus_whole, at_most, at_most_of, at_most_of_not_below, at_most_total, at_most_trans}
use Rattle.arith.proofs.Rounding.{round_up_law}
use Rattle.loss.specs.PartAbove.{part_above}
use Rattle.loss.specs.Exact.{IsNumber, EntryAccurate, Exact, cut}
use Rattle.loss.proofs.Roots.{twice_product}
use Rattle.loss.proofs.OneDenominator.{at_most_over, at_most_over_of, below_over, below_over_of, is_zero, not_negative, not_negative_of, larger_left, larger_right}

-- ---- values over a common denominator

-- the value of x over D
record Over (D : ℕ) (x : Fraction) : Type 0 where
  plus : ℕ
  minus : ℕ
  is : Is x plus minus D

over : (D r : ℕ) (x : Fraction) → 0 < D → D ≡ x.den * r → Over D x
over D r x h e = record { plus = x.plus * r; minus = x.minus * r; is = is_expanded r D h e (is_itself x) }

-- four fractions over one denominator
record Common (a b c d : Fraction) : Type 0 where
  D : ℕ
  first : Over D a
  second : Over D b
  third : Over D c
  fourth : Over D d

common : (a b c d : Fraction) → Common a b c d
common a b c d =
    let D : ℕ = a.den * b.den * (c.den * d.den) in
    let pos : 0 < D = mul-pos (mul-pos a.above b.above) (mul-pos c.above d.above) in
    record {
      D = D;
      first = over D (b.den * (c.den * d.den)) a pos (omega arith);
      second = over D (a.den * (c.den * d.den)) b pos (omega arith);
      third = over D (a.den * b.den * d.den) c pos (omega arith);
      fourth = over D (a.den * b.den * c.den) d pos (omega arith);
    }

-- ---- squares keep the order

pub square_not_negative : (y : Fraction) → whole 0 ≼ y ⊗ y
square_not_negative y = at_most (is_whole 0) (is_product (is_itself y) (is_itself y)) (omega (arith, twice_product y.plus y.minus))

squares_ordered : {y t : Fraction} {p m n o D : ℕ} → Is y p m D → Is t n o D → o ≤ n → n + m < p + o → y ⊗ y ≼ t ⊗ t → ⊥
squares_ordered {p = p} {m = m} {n = n} {o = o} {D = D} i j h l e =
    let iy : Is _ (p - m) 0 D = is_subtracted (omega arith) i in
    let it : Is _ (n - o) 0 D = is_subtracted h j in
    let k : n - o < p - m = omega arith in
    let s : (p - m) * (p - m) ≤ (n - o) * (n - o) =
    le_of_mul-le-mul_right {k = D * D} (omega (arith, at_most_of (is_natural_product iy iy) (is_natural_product it it) e)) (mul-pos i.pos i.pos) in
    omega (arith, square_below k)

at_most_of_squares : (y t : Fraction) → whole 0 ≼ t → y ⊗ y ≼ t ⊗ t → y ≼ t
at_most_of_squares y t nn e =
    let k = common y t y t in
    let i = k.first.is in
    let j = k.second.is in
    at_most_of_not_below y t (λ l. squares_ordered i j (not_negative_of j nn) (below_over_of j i l) e)

-- ---- an exact entry is a number, where its allowance is not negative

-- q - loss + allowance
excess_is : {q loss allowance : Fraction} {a b l k u v D : ℕ} → Is q a b D → Is loss l k D → Is allowance u v D → Is (q ⊖ loss ⊕ allowance) (a + k + u) (b + l + v) D
excess_is i j k = is_sum (is_difference i j) k

module _ (x : Exact) (allowance_not_negative : whole 0 ≼ x.allowance) where
  -- it is not negative where q is at least the loss
  excess_not_negative : (q : Fraction) → x.loss ≼ q → whole 0 ≼ q ⊖ x.loss ⊕ x.allowance
  excess_not_negative q h =
      let k = common q x.loss x.allowance q in
      not_negative (excess_is k.first.is k.second.is k.third.is)
      (omega (arith, at_most_over_of k.second.is k.first.is h, not_negative_of k.third.is allowance_not_negative))

  ordered_by_excess : (p q : Fraction) → p ⊖ x.loss ⊕ x.allowance ≼ q ⊖ x.loss ⊕ x.allowance → p ≼ q
  ordered_by_excess p q h =
      let k = common p q x.loss x.allowance in
      at_most_over k.first.is k.second.is
      (omega (arith, at_most_over_of (excess_is k.first.is k.third.is k.fourth.is) (excess_is k.second.is k.third.is k.fourth.is) h))

  pub exact_is_number : IsNumber (cut x)
  unfolding cut
  exact_is_number = record {
    side = λ q. ⊎_elim (λ a. inl (inl a)) (λ a. ⊎_elim (λ b. inl (inr b)) (λ b. inr (a, b)) (at_most_total _ _)) (at_most_total q x.loss);
    ordered = λ p q h k.
        ⊎_elim
        (λ a. at_most_trans p x.loss q a k.0)
        (λ a. ordered_by_excess p q (at_most_of_squares _ _ (excess_not_negative q k.0) (at_most_trans _ x.square _ a k.1)))
        h;
  }

-- ---- the entry

-- e is the loss plus the part of t above the allowance, rounded up: over one denominator, what that says of e
record Entry (l k u v n o D e : ℕ) : Type 0 where
  loss : l ≤ e * D + k
  more : l + n + v ≤ e * D + k + o + u
  near : (e * D + k < l + D) ⊎ (e * D + k + o + u < l + n + v + D)

module _ {loss allowance t : Fraction} {l k u v n o D : ℕ} (il : Is loss l k D) (iu : Is allowance u v D) (it : Is t n o D) (not_negative_loss : k ≤ l) where
  entry_numbers : Entry l k u v n o D (round_up (loss ⊕ part_above t allowance))
  unfolding part_above
  entry_numbers = go (dec_le (n + v) (u + o))
    where
      zero : Is (whole 0) 0 0 D
      zero = is_zero D il.pos

      go : Dec (n + v ≤ u + o) → Entry l k u v n o D (round_up (loss ⊕ larger (t ⊖ allowance) (whole 0)))
      go (yes h) =
          let r : QuotientUp (l + 0 - (k + 0)) D (round_up (loss ⊕ larger (t ⊖ allowance) (whole 0))) = round_up_law (is_sum il (larger_right (is_difference it iu) zero (omega arith))) in
          record { loss = omega (arith, r.not_below); more = omega (arith, r.not_below); near = inl (omega (arith, r.near)) }
      go (no h) =
          let r : QuotientUp (l + (n + v) - (k + (o + u))) D (round_up (loss ⊕ larger (t ⊖ allowance) (whole 0))) = round_up_law (is_sum il (larger_left (is_difference it iu) zero (omega arith))) in
          record { loss = omega (arith, r.not_below); more = omega (arith, r.not_below); near = inr (omega (arith, r.near)) }

-- For any allowance that is not negative: t is what the entry takes for the root. It is not below the root, and at most the excess above whatever is at or above the root.
module _ (x : Exact) (t : Fraction) (excess : ℕ)
    (loss_not_negative : whole 0 ≼ x.loss) (allowance_not_negative : whole 0 ≼ x.allowance) (t_not_negative : whole 0 ≼ t)
    (enough : x.square ≼ t ⊗ t) (near : (y : Fraction) → whole 0 ≼ y → x.square ≼ y ⊗ y → t ≼ y ⊕ whole excess) where
  never_below : (q : Fraction) → (cut x).AtOrBelow q → q ≼ whole (round_up (x.loss ⊕ part_above t x.allowance))
  unfolding cut
  never_below q h =
      let e : ℕ = round_up (x.loss ⊕ part_above t x.allowance) in
      let k = common q x.loss x.allowance t in
      let i = k.first.is in
      let D : ℕ = k.D in
      let E : Entry _ _ _ _ _ _ D e = entry_numbers k.second.is k.third.is k.fourth.is (not_negative_of k.second.is loss_not_negative) in
      let whole_is : Is (whole e) (e * D) 0 D = is_also (e * D) 0 D i.pos (omega arith) (is_whole e) in
      ⊎_elim
      (λ a. at_most_over i whole_is (omega (arith, E.loss, at_most_over_of i k.second.is a)))
      (λ a.
      let y = at_most_of_squares _ t t_not_negative (at_most_trans _ x.square _ a enough) in
      at_most_over i whole_is (omega (arith, E.more, at_most_over_of (excess_is i k.second.is k.third.is) k.fourth.is y)))
      h

  not_far_above : (q : Fraction) → (cut x).AtOrAbove q → whole (round_up (x.loss ⊕ part_above t x.allowance)) ≺ q ⊕ whole (excess + 1)
  unfolding cut
  not_far_above q h =
      let e : ℕ = round_up (x.loss ⊕ part_above t x.allowance) in
      let k = common q x.loss x.allowance t in
      let i = k.first.is in
      let D : ℕ = k.D in
      let E : Entry _ _ _ _ _ _ D e = entry_numbers k.second.is k.third.is k.fourth.is (not_negative_of k.second.is loss_not_negative) in
      let whole_is : Is (whole e) (e * D) 0 D = is_also (e * D) 0 D i.pos (omega arith) (is_whole e) in
      let y = excess_is i k.second.is k.third.is in
      let n = at_most_over_of k.fourth.is (is_plus_whole excess y) (near _ (excess_not_negative x allowance_not_negative q h.0) h.1) in
      let l = at_most_over_of k.second.is i h.0 in
      ⊎_elim
      (λ a. below_over whole_is (is_plus_whole (excess + 1) i) (omega (arith, a, l)))
      (λ a. below_over whole_is (is_plus_whole (excess + 1) i) (omega (arith, a, n)))
      E.near

  pub entry_accurate : EntryAccurate (excess + 1) (cut x) (round_up (x.loss ⊕ part_above t x.allowance))
  entry_accurate = record { never_below = never_below; near = not_far_above }
