-- The uncertainties of a row's sensors are small, over any list of outputs. Assumes nothing.
use Prim.Native.Nat.{ℕ, ◌+◌, ◌*◌, ◌≤◌, ◌<◌, ◌^◌}
use mathlib.Core.List.{List, [], ◌∷◌}
use native.Mathlib.Omega.{arith}
use native.Mathlib.Nat.{mul-le-mul_right}
use lib.ListN.{length}
use Rattle.arith.proofs.Squares.{square_at_most}
use Rattle.loss.specs.Measured.{sum_of_squares, loss_uncertainty}
use Rattle.loss.proofs.Parts.{root_at_most}

-- each of the outputs' uncertainties is at most 43,000,000 grains
abbrev pub OutputsSmall : List ℕ → Type 0
OutputsSmall [] = Unit {0}
OutputsSmall (w ∷ ws) = (w ≤ 43000000) × OutputsSmall ws

sum_at_most : (ws : List ℕ) → OutputsSmall ws → sum_of_squares ws ≤ length ws * (43000000 * 43000000)
sum_at_most [] h = omega arith
sum_at_most (w ∷ ws) h = omega (arith, square_at_most h.0, sum_at_most ws h.1)

-- With that of the input at the wheel, whose factor is at most so many times 1,000: the squares fit 64 bits up to 66 times, which no 16-bit
-- ratio exceeds, and the root of their sum is at most once more.
module _ (times : ℕ) {v : ℕ} (ws : List ℕ) (h : v ≤ 43000000 * times) (k : OutputsSmall ws) (few : length ws ≤ 3) where
  squares_at_most : sum_of_squares (v ∷ ws) ≤ (times * times + 3) * (43000000 * 43000000)
  squares_at_most = omega (arith, square_at_most h, sum_at_most ws k, mul-le-mul_right (43000000 * 43000000) few)

  pub squares_fit : times ≤ 66 → sum_of_squares (v ∷ ws) < 2 ^ 64
  squares_fit m = omega (arith, squares_at_most, mul-le-mul_right (43000000 * 43000000) (square_at_most m))

  pub root_fits : 1 ≤ times → loss_uncertainty (v ∷ ws) ≤ 43000000 * (times + 1)
  unfolding loss_uncertainty
  root_fits m = root_at_most _ (43000000 * (times + 1)) (omega (arith, squares_at_most, m))
