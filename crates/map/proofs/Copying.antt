-- Rows that are copied one after the other. Assumes nothing.
use Prim.Native.Nat.{ℕ, ◌+◌, ◌-◌, ◌*◌, ◌≤◌, ◌<◌}
use mathlib.Core.Path.{◌≡◌}
use mathlib.Core.List.{List, ◌++◌}
use native.Mathlib.Omega.{arith}
use lib.ListN.{length, take, drop, length-drop, length-take}
use native.Mathlib.Nat.{mul-le-mul_right, suc-mul}
use lib.Seq.{take_at}
use Rattle.grid.specs.Lists.{joined}
use Rattle.grid.proofs.Lists.{joined_same, joined_stretch}
use Rattle.map.specs.Answers.{stretch}

-- a row that is copied lies within what is given
pub source_room : (i speeds step size long : ℕ) → i < speeds → speeds * step + size ≤ long + step → i * step + size ≤ long
source_room i speeds step size long h k = omega (arith, rw suc-mul at (mul-le-mul_right step h))

pub stretch_size : (from : List ℕ) (step size speeds : ℕ) → speeds * step + size ≤ length from + step → (i : ℕ) → i < speeds → length (stretch from step size i) ≡ size
unfolding stretch
stretch_size from step size speeds k i h = simp (length-take, length-drop) (omega (arith, source_room i speeds step size (length from) h k))

pub stretch_is : (from : List ℕ) (step size source i : ℕ) → source ≡ i * step → take (source + size - source) (drop source from) ≡ stretch from step size i
unfolding stretch
stretch_is from step size source i e = let z : source + size - source ≡ size = omega arith in rw (z, e)

-- the rows that are copied of a buffer: one row again and again, or each in its stretch
pub same_row : (f : ℕ → List ℕ) (row buffer rest : List ℕ) (size speeds : ℕ) → length row ≡ size → buffer ≡ row ++ rest → ((s : ℕ) → f s ≡ row)
    → joined (stretch buffer 0 size) speeds ≡ joined f speeds
unfolding stretch
same_row f row buffer rest size speeds l e same =
    joined_same (stretch buffer 0 size) f speeds
    (λ s h. let z : s * 0 ≡ 0 = omega arith in rw (e, z, same s) (take_at row rest size l))

pub own_stretch : (f : ℕ → List ℕ) (buffer rest : List ℕ) (size speeds : ℕ) → ((s : ℕ) → s < speeds → length (f s) ≡ size) → buffer ≡ joined f speeds ++ rest
    → joined (stretch buffer size size) speeds ≡ joined f speeds
unfolding stretch
own_stretch f buffer rest size speeds sizes e =
    joined_same (stretch buffer size size) f speeds (λ s h. rw e (joined_stretch f size speeds sizes s h rest))
