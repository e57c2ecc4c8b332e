-- The exact rule gives the numbers that the second implementation has. Assumes nothing.
use mathlib.Core.Path.{◌≡◌, refl}
use mathlib.Core.Bool.{Bool, true, false, ◌&&◌, cond}
use mathlib.Core.List.{List, [], ◌∷◌}
use mathlib.Core.Logic.{◌⊎◌, inl, inr}
use borrow.Author.Tests.{leb-true}
use lib.Dec.{leb}
use Rattle.grid.proofs.Every.{and_fst, and_snd}
use Rattle.arith.specs.Fraction.{Fraction, ◌less◌over◌, ◌over◌, whole, ◌⊕◌, ◌⊖◌, ◌⊗◌, cleared, ◌≼◌, larger}
use Rattle.loss.specs.Standard.{standard_loss}
use Rattle.loss.specs.Measured.{temperature_on_sensitivity, temperature_on_zero, calibration, parasitic_loads, measured_loss, allowance, readings}
use Rattle.loss.specs.Exact.{cut, unrounded, sensor_square, root_square, exact_standard, exact_measured}
use Rattle.loss.specs.ExactCases.{ExactCase, AllBracketed, exact_cases}

-- the order of fractions as a test
at_most : Fraction → Fraction → Bool
at_most x y = leb (cleared x y) (cleared y x)

at_most_lem : (x y : Fraction) → at_most x y ≡ true → x ≼ y
unfolding at_most ◌≼◌
at_most_lem x y e = leb-true _ _ e

-- the square of what a fraction has above the loss and the allowance below it
square : ExactCase → Fraction → Fraction
square c q = (q ⊖ c.exact.loss ⊕ c.exact.allowance) ⊗ (q ⊖ c.exact.loss ⊕ c.exact.allowance)

-- at or below by the loss where no root is above the allowance, or by the root; at or above by both
below : ExactCase → Bool
below c = cond (at_most (c.low over 10000000) c.exact.loss) true (at_most (square c (c.low over 10000000)) c.exact.square)

above : ExactCase → Bool
above c = at_most c.exact.loss (c.high over 10000000) && at_most c.exact.square (square c (c.high over 10000000))

below_lem : (c : ExactCase) → below c ≡ true → (cut c.exact).AtOrBelow (c.low over 10000000)
unfolding below square cut
below_lem c e = go (at_most (c.low over 10000000) c.exact.loss) refl e
  where
    go : (b : Bool) → at_most (c.low over 10000000) c.exact.loss ≡ b → cond b true (at_most (square c (c.low over 10000000)) c.exact.square) ≡ true
        → (c.low over 10000000 ≼ c.exact.loss) ⊎ (square c (c.low over 10000000) ≼ c.exact.square)
    go true f e = inl (at_most_lem _ _ f)
    go false f e = inr (at_most_lem _ _ e)

above_lem : (c : ExactCase) → above c ≡ true → (cut c.exact).AtOrAbove (c.high over 10000000)
unfolding above square cut
above_lem c e =
    let loss = at_most c.exact.loss (c.high over 10000000) in
    let root = at_most c.exact.square (square c (c.high over 10000000)) in
    (at_most_lem _ _ (and_fst loss root e), at_most_lem _ _ (and_snd loss root e))

all : List ExactCase → Bool
all [] = true
all (c ∷ cs) = (below c && above c) && all cs

all_lem : (cs : List ExactCase) → all cs ≡ true → AllBracketed cs
unfolding all
all_lem [] e = tt
all_lem (c ∷ cs) e =
    let both = and_fst (below c && above c) (all cs) e in
    ((below_lem c (and_fst (below c) (above c) both), above_lem c (and_snd (below c) (above c) both)), all_lem cs (and_snd (below c && above c) (all cs) e))

pub exact_cases_lem : AllBracketed exact_cases
unfolding all below above square at_most cut exact_standard exact_measured standard_loss measured_loss allowance root_square readings sensor_square unrounded temperature_on_sensitivity temperature_on_zero calibration parasitic_loads larger whole ◌over◌ ◌less◌over◌ ◌⊕◌ ◌⊖◌ ◌⊗◌
exact_cases_lem = all_lem exact_cases refl
