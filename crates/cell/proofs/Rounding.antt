-- `ceiling` rounds a fraction up, and depends on its value alone. Assumes nothing.
use Prim.Native.Nat.{ℕ, zero, suc, ◌+◌, ◌-◌, ◌*◌, ◌/◌, ◌≤◌, ◌<◌, max}
use mathlib.Core.Path.{◌≡◌, refl, ap}
use mathlib.Core.Bool.{Bool, true, false, cond}
use native.Mathlib.Omega.{arith, by_contra}
use native.Mathlib.Nat.{mul-le-mul_right, mul-le-mul_left}
use borrow.Author.Tests.{leb-true, leb-false, le-leb, lt-leb}
use lib.Dec.{leb}
use lib.IntN.{ℤ, pos, negsuc, neg_ℤ}
use Rattle.arith.specs.Quotient.{quotient_up, quotient_down, quotient_up_law, quotient_up_least, quotient_down_law}
use Rattle.arith.specs.Fraction.{Fraction, ◌less◌over◌, signed, RoundsUp}
use Rattle.arith.proofs.Fractions.{Is, is_itself, is_less, is_signed_pos, is_signed_negsuc, is_plus_whole, at_most, at_most_of, below, below_of}
use Rattle.cell.specs.Rounding.{ceiling}

-- a whole number that may be negative is up - down
abbrev pub up : ℤ → ℕ
up (pos n) = n
up (negsuc n) = 0

abbrev pub down : ℤ → ℕ
down (pos n) = 0
down (negsuc n) = suc n

pub is_signed : (z : ℤ) → Is (signed z) (up z) (down z) 1
is_signed (pos n) = is_signed_pos n
is_signed (negsuc n) = is_signed_negsuc n

-- z is (p - m) / d rounded up, by the numbers alone
pub record Rounded (p m d : ℕ) (z : ℤ) : Type 0 where
  pub not_below : p + down z * d ≤ m + up z * d
  pub near : m + up z * d < p + down z * d + d

-- from the numbers to the fraction, and back
pub rounds_of : {x : Fraction} {p m d : ℕ} (z : ℤ) → Is x p m d → Rounded p m d z → RoundsUp x z
rounds_of z i r = record {
  not_below = at_most i (is_signed z) (omega (arith, r.not_below));
  near = below (is_signed z) (is_plus_whole 1 i) (omega (arith, r.near));
}

pub rounded_of : {x : Fraction} {p m d : ℕ} (z : ℤ) → Is x p m d → RoundsUp x z → Rounded p m d z
rounded_of z i r = record {
  not_below = omega (arith, at_most_of i (is_signed z) r.not_below);
  near = omega (arith, below_of (is_signed z) (is_plus_whole 1 i) r.near);
}

-- ---- there is one number that it rounds up to

same_number : (y z : ℤ) → up y + down z ≤ up z + down y → up z + down y ≤ up y + down z → y ≡ z
same_number (pos m) (pos n) h k = let e : m ≡ n = omega arith in ap (λ (i : ℕ). pos i) e
same_number (pos m) (negsuc n) h k = absurd (omega arith)
same_number (negsuc m) (pos n) h k = absurd (omega arith)
same_number (negsuc m) (negsuc n) h k = let e : m ≡ n = omega arith in ap (λ (i : ℕ). negsuc i) e

order : (p m d a b s t : ℕ) → p + b * d ≤ m + a * d → m + s * d < p + t * d + d → s + b ≤ a + t
order p m d a b s t h k = by_contra _ _ (λ l. omega (arith, mul-le-mul_right d l))

pub rounds_up_unique : (x : Fraction) (y z : ℤ) → RoundsUp x y → RoundsUp x z → y ≡ z
rounds_up_unique x y z r s =
    let a = rounded_of y (is_itself x) r in
    let b = rounded_of z (is_itself x) s in
    same_number y z
    (order x.plus x.minus x.den (up z) (down z) (up y) (down y) b.not_below a.near)
    (order x.plus x.minus x.den (up y) (down y) (up z) (down z) a.not_below b.near)

-- ---- and `ceiling` is that number

up_negative : (n : ℕ) → up (neg_ℤ (pos n)) ≡ 0
up_negative zero = refl
up_negative (suc n) = refl

down_negative : (n : ℕ) → down (neg_ℤ (pos n)) ≡ n
down_negative zero = refl
down_negative (suc n) = refl

pub ceiling_rounds : (x : Fraction) → RoundsUp x (ceiling x)
unfolding ceiling
ceiling_rounds x = go (leb x.minus x.plus) refl
  where
    go : (t : Bool) → leb x.minus x.plus ≡ t → RoundsUp x (cond t (pos (quotient_up (x.plus - x.minus) x.den)) (neg_ℤ (pos (quotient_down (x.minus - x.plus) x.den))))
    go true e =
        let l : x.minus ≤ x.plus = leb-true _ _ e in
        let u = quotient_up_law (x.plus - x.minus) x.den x.above in
        rounds_of _ (is_itself x) (record { not_below = omega (arith, u.not_below); near = omega (arith, u.near) })
    go false e =
        let l : x.plus < x.minus = leb-false _ _ e in
        let u = quotient_down_law (x.minus - x.plus) x.den x.above in
        let n = quotient_down (x.minus - x.plus) x.den in
        rounds_of _ (is_itself x)
        (record {
          not_below = rw (up_negative n, down_negative n) (omega (arith, u.not_above));
          near = rw (up_negative n, down_negative n) (omega (arith, u.near));
        })

-- by any numbers that give the value
pub ceiling_is : {x : Fraction} {p m d : ℕ} → Is x p m d → ceiling x ≡ ceiling (p less m over d)
ceiling_is {x} {p} {m} {d} i =
    rounds_up_unique (p less m over d) (ceiling x) (ceiling (p less m over d))
    (rounds_of (ceiling x) (is_less p m d i.pos) (rounded_of (ceiling x) i (ceiling_rounds x)))
    (ceiling_rounds (p less m over d))

-- ---- the two branches of `ceiling`

pub ceiling_up : (p m d : ℕ) → 0 < d → m ≤ p → ceiling (p less m over d) ≡ pos (quotient_up (p - m) d)
unfolding ceiling ◌less◌over◌
ceiling_up p m d h l = let e : max d 1 ≡ d = omega arith in rw (e, le-leb _ _ l)

pub ceiling_down : (p m d : ℕ) → 0 < d → p < m → ceiling (p less m over d) ≡ neg_ℤ (pos ((m - p) / d))
unfolding ceiling ◌less◌over◌ quotient_down
ceiling_down p m zero h l = absurd (omega arith)
ceiling_down p m (suc d) h l = let e : max (suc d) 1 ≡ suc d = omega arith in rw (e, lt-leb _ _ l)

-- a quotient rounded up is at most the number divided
pub quotient_le : (n d : ℕ) → 0 < d → quotient_up n d ≤ n
quotient_le n d h = quotient_up_least (quotient_up_law n d h) n (omega (arith, mul-le-mul_left n h))

-- what the code's own ceiling follows from
pub ruleset ceilings = (ceiling_up, ceiling_down, quotient_le)
