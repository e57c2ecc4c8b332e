-- Document 01, "Loss at a point": how the one fraction is rounded.
use Rattle.std.specs.Prelude.{◌-◌, cond, leb, ℤ, pos, neg_ℤ}
use Rattle.arith.specs.Fraction.{Fraction}
use Rattle.arith.specs.Quotient.{quotient_up, quotient_down}

-- a fraction rounded up to a whole number, "also under zero"
unfoldable pub ceiling : Fraction → ℤ
ceiling x = cond (leb x.minus x.plus) (pos (quotient_up (x.plus - x.minus) x.den)) (neg_ℤ (pos (quotient_down (x.minus - x.plus) x.den)))
