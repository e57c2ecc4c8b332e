-- Squares keep the order of whole numbers. Assumes nothing.
use Prim.Native.Nat.{ℕ, ◌*◌, ◌≤◌, ◌<◌}
use native.Mathlib.Omega.{arith, by_contra}
use native.Mathlib.Nat.{mul-le-mul}

pub square_at_most : {a b : ℕ} → a ≤ b → a * a ≤ b * b
square_at_most h = mul-le-mul h h

pub square_below : {a b : ℕ} → a < b → a * a < b * b
square_below h = omega (arith, mul-le-mul h h)

pub at_most_of_square : (a b : ℕ) → a * a ≤ b * b → a ≤ b
at_most_of_square a b h = by_contra a b (λ l. omega (arith, square_below l))
