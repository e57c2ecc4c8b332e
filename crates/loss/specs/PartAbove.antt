-- The part of one fraction above another, and a fraction under zero. Assumes nothing.
use Rattle.std.specs.Prelude.{Bool, ltb}
use Rattle.arith.specs.Fraction.{Fraction, whole, ◌⊖◌, larger}

-- what x has above y, 0 where it has nothing
unfoldable pub part_above : Fraction → Fraction → Fraction
part_above x y = larger (x ⊖ y) (whole 0)

-- a fraction is under zero
unfoldable pub under_zero : Fraction → Bool
under_zero x = ltb x.plus x.minus
