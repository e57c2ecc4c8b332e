-- The points of a grid, speed by speed. Assumes nothing.
use Prim.Native.Nat.{ℕ, ◌+◌, ◌*◌, ◌≤◌, ◌<◌}
use native.Mathlib.Nat.{suc-mul, mul-le-mul_right}

-- the n points of speed i lie within those of all m speeds
pub row_within : (i m n : ℕ) → i < m → i * n + n ≤ m * n
row_within i m n h = rw suc-mul at (mul-le-mul_right n h)
