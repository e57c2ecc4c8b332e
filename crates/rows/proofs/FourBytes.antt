-- The number of the four bytes at a place. Assumes nothing.
use Prim.Native.Nat.{ℕ, ◌+◌, ◌-◌, ◌*◌, ◌≤◌, ◌<◌}
use mathlib.Core.Path.{◌≡◌}
use mathlib.Core.List.{List, ◌∷◌}
use native.Mathlib.Omega.{arith}
use native.Mathlib.Numerals.{add-one}
use lib.ListN.{length, get_or, drop}
use lib.Seq.{drop-cons}
use Rattle.fields.specs.Bytes.{number_of, between}

next : (s : List ℕ) (i j : ℕ) → i < length s → j ≡ i + 1 → drop i s ≡ get_or s i 0 ∷ drop j s
next s i j h e = rw (e, add-one, drop-cons s i 0 h)

pub four_at : (s : List ℕ) (at : ℕ) → at + 4 ≤ length s
    → number_of (between s at (at + 4)) ≡ ((get_or s at 0 * 256 + get_or s (at + 1) 0) * 256 + get_or s (at + 2) 0) * 256 + get_or s (at + 3) 0
four_at s at h =
    let z : at + 4 - at ≡ 4 = omega arith in
    rw (
      z,
      next s at (at + 1) (omega arith) (omega arith),
      next s (at + 1) (at + 2) (omega arith) (omega arith),
      next s (at + 2) (at + 3) (omega arith) (omega arith),
      next s (at + 3) (at + 4) (omega arith) (omega arith),
    )
    (omega arith)
