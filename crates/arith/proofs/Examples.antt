-- Worked cases that compute. Assumes nothing.
use Prim.Native.Nat.{ℕ}
use mathlib.Core.Path.{◌≡◌, refl}
use mathlib.Core.List.{List, [], ◌∷◌}
use Rattle.std.specs.Prelude.{map}
use Rattle.arith.specs.Quotient.{quotient_up, quotient_down}
use Rattle.arith.specs.Root.{root_up, root_down}

-- what is computed, beside what is expected
examples : List (ℕ × ℕ)
examples =
    (quotient_up 7 2, 4)
    ∷ (quotient_up 6 2, 3)
    ∷ (quotient_up 6 0, 0)
    ∷ (quotient_down 7 2, 3)
    ∷ (root_up 0, 0)
    ∷ (root_up 1, 1)
    ∷ (root_up 2, 2)
    ∷ (root_up 4, 2)
    ∷ (root_up 5, 3)
    ∷ (root_up 10000000000, 100000)
    ∷ (root_up 18446744073709551615, 4294967296)
    ∷ (root_down 8, 2)
    ∷ (root_down 9, 3)
    ∷ []

examples_hold : map (λ (p : ℕ × ℕ). p.0) examples ≡ map (λ (p : ℕ × ℕ). p.1) examples
unfolding examples quotient_up quotient_down root_up root_down
examples_hold = refl
