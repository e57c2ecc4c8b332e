-- Square roots of whole numbers, rounded up and rounded down. Assumes nothing.
use Rattle.std.specs.Prelude.{ℕ, zero, suc, pred, ◌+◌, ◌*◌, ◌/◌, ◌≤◌, ◌≡◌, true, false, leb, ltb}
use Rattle.std.proofs.Common.{le_antisymm}

-- r is the root of n rounded up: its square reaches n, and that of no smaller number does
pub record RootUp (n r : ℕ) : Type 0 where
  pub enough : n ≤ r * r
  pub least : (s : ℕ) → n ≤ s * s → r ≤ s

-- r is the root of n rounded down: its square stays within n, and that of no larger number does
pub record RootDown (n r : ℕ) : Type 0 where
  pub not_above : r * r ≤ n
  pub greatest : (s : ℕ) → s * s ≤ n → s ≤ r

-- the root of n rounded up, by bisection: low * low < n ≤ high * high. steps ends the recursion, and is at least high - low.
unfoldable pub bisection : (steps n low high : ℕ) → ℕ
bisection zero n low high = high
bisection (suc steps) n low high =
    elim (leb high (suc low)) [
      | true ↦ high
      | false ↦
          elim (ltb ((low + high) / 2 * ((low + high) / 2)) n) [
            | true ↦ bisection steps n ((low + high) / 2) high
            | false ↦ bisection steps n low ((low + high) / 2)
          ]
    ]

-- the root of n rounded up
unfoldable pub root_up : ℕ → ℕ
unfolding bisection
root_up zero = 0
root_up (suc n) = bisection (suc n) (suc n) 0 (suc n)

-- the root of n rounded down
unfoldable pub root_down : ℕ → ℕ
unfolding root_up
root_down n = pred (root_up (n + 1))

pub root_up_unique : {n r s : ℕ} → RootUp n r → RootUp n s → r ≡ s
root_up_unique {r = r} {s = s} p q = le_antisymm (p.least s q.enough) (q.least r p.enough)

pub root_down_unique : {n r s : ℕ} → RootDown n r → RootDown n s → r ≡ s
root_down_unique {r = r} {s = s} p q = le_antisymm (q.greatest r p.not_above) (p.greatest s q.not_above)
