-- Signed fractions of whole numbers, with their sum, difference, product and order, and how they are rounded up. Assumes nothing.
use Rattle.std.specs.Prelude.{ℕ, suc, ◌+◌, ◌-◌, ◌*◌, ◌≤◌, ◌<◌, max, cond, leb, ℤ, pos, negsuc}
use Rattle.std.proofs.Common.{arith, mul-pos}
use Rattle.arith.specs.Quotient.{quotient_up}

infixl 70 ◌⊗◌
infixl 65 ◌⊕◌ ◌⊖◌
infix 60 ◌over◌ ◌less◌over◌
infix 4 ◌≼◌ ◌≺◌
-- the fraction (plus - minus) / den
pub record Fraction : Type 0 where
  pub plus : ℕ
  pub minus : ℕ
  pub den : ℕ
  pub above : 0 < den

-- (n - m) / d. A denominator of 0 counts as 1, so that any three numbers name a fraction.
unfoldable pub ◌less◌over◌ : ℕ → ℕ → ℕ → Fraction
n less m over d = record { plus = n; minus = m; den = max d 1; above = omega arith }

-- n / d, with the same convention
unfoldable pub ◌over◌ : ℕ → ℕ → Fraction
unfolding ◌less◌over◌
n over d = n less 0 over d

-- a whole number
unfoldable pub whole : ℕ → Fraction
unfolding ◌over◌
whole n = n over 1

-- a whole number that may be negative
unfoldable pub signed : ℤ → Fraction
unfolding ◌less◌over◌
signed (pos n) = n less 0 over 1
signed (negsuc n) = 0 less suc n over 1

-- sum
unfoldable pub ◌⊕◌ : Fraction → Fraction → Fraction
x ⊕ y = record {
  plus = x.plus * y.den + y.plus * x.den;
  minus = x.minus * y.den + y.minus * x.den;
  den = x.den * y.den;
  above = mul-pos x.above y.above;
}

-- difference
unfoldable pub ◌⊖◌ : Fraction → Fraction → Fraction
x ⊖ y = record {
  plus = x.plus * y.den + y.minus * x.den;
  minus = x.minus * y.den + y.plus * x.den;
  den = x.den * y.den;
  above = mul-pos x.above y.above;
}

-- product
unfoldable pub ◌⊗◌ : Fraction → Fraction → Fraction
x ⊗ y = record {
  plus = x.plus * y.plus + x.minus * y.minus;
  minus = x.plus * y.minus + x.minus * y.plus;
  den = x.den * y.den;
  above = mul-pos x.above y.above;
}

-- x as it is compared with y: times both denominators, with what y subtracts added
abbrev pub cleared : Fraction → Fraction → ℕ
cleared x y = x.plus * y.den + y.minus * x.den

-- at most
unfoldable pub ◌≼◌ : Fraction → Fraction → Type 0
x ≼ y = cleared x y ≤ cleared y x

-- less than
unfoldable pub ◌≺◌ : Fraction → Fraction → Type 0
x ≺ y = cleared x y < cleared y x

-- two fractions of one value
abbrev pub Same : Fraction → Fraction → Type 0
Same x y = (x ≼ y) × (y ≼ x)

-- the larger of two fractions
unfoldable pub larger : Fraction → Fraction → Fraction
larger x y = cond (leb (cleared x y) (cleared y x)) y x

-- x rounded up to a whole number, of which `RoundsUp` is the law where x is not under zero; under zero it is 0
unfoldable pub round_up : Fraction → ℕ
round_up x = quotient_up (x.plus - x.minus) x.den

-- z is x rounded up to a whole number: not below it, and less than one above it
pub record RoundsUp (x : Fraction) (z : ℤ) : Type 0 where
  pub not_below : x ≼ signed z
  pub near : signed z ≺ x ⊕ whole 1
