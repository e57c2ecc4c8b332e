-- The roots are what their records say. Assumes nothing.
use Prim.Native.Nat.{ℕ, zero, suc, pred, ◌+◌, ◌*◌, ◌/◌, ◌≤◌, ◌<◌}
use mathlib.Core.Path.{◌≡◌, refl}
use mathlib.Core.Bool.{Bool, true, false}
use native.Mathlib.Omega.{arith, by_contra, pred_cases}
use lib.Dec.{leb, ltb}
use borrow.Author.Tests.{ltb-true, ltb-false, leb-true, leb-false}
use Rattle.arith.specs.Root.{RootUp, RootDown, bisection, root_up, root_down, root_up_unique, root_down_unique}
use Rattle.arith.proofs.Squares.{square_at_most, square_below}

-- the next number after one whose square is too small is the root, where its square is enough
pub next_is_root : (n low high : ℕ) → low * low < n → n ≤ high * high → high ≤ suc low → RootUp n high
next_is_root n low high a b c =
    record { enough = b; least = λ r h. by_contra high r (λ l. let s : r ≤ low = omega arith in omega (arith, square_at_most s)) }

-- ---- rounded up

bisection_law : (steps n low high : ℕ) → low * low < n → n ≤ high * high → high ≤ low + steps → RootUp n (bisection steps n low high)
unfolding bisection
bisection_law zero n low high a b c = next_is_root n low high a b (omega arith)
bisection_law (suc steps) n low high a b c = outer (λ l h. bisection_law steps n l h) (leb high (suc low)) refl
  where
    middle : ℕ
    middle = (low + high) / 2

    Law : ℕ → Type 0
    Law k = (l h : ℕ) → l * l < n → n ≤ h * h → h ≤ l + k → RootUp n (bisection k n l h)

    inner : Law steps → suc low < high → (t : Bool) → ltb (middle * middle) n ≡ t →
        RootUp n (elim t [ true ↦ bisection steps n middle high | false ↦ bisection steps n low middle ])
    inner law far true e = law middle high (ltb-true (middle * middle) n e) b (omega arith)
    inner law far false e = law low middle a (ltb-false (middle * middle) n e) (omega arith)

    outer : Law steps → (t : Bool) → leb high (suc low) ≡ t →
        RootUp n (elim t [ true ↦ high | false ↦ elim (ltb (middle * middle) n) [ true ↦ bisection steps n middle high | false ↦ bisection steps n low middle ] ])
    outer law true e = next_is_root n low high a b (leb-true high (suc low) e)
    outer law false e = inner law (leb-false high (suc low) e) (ltb (middle * middle) n) refl

pub root_up_law : (n : ℕ) → RootUp n (root_up n)
unfolding root_up
root_up_law zero = record { enough = omega arith; least = λ r h. omega arith }
root_up_law (suc n) = bisection_law (suc n) (suc n) 0 (suc n) (omega arith) (omega arith) (omega arith)

-- the number that obeys the law is the root
pub is_root_up : {n r : ℕ} → RootUp n r → r ≡ root_up n
is_root_up {n} p = root_up_unique p (root_up_law n)

pub root_of_zero : (n : ℕ) → n ≡ 0 → 0 ≡ root_up n
root_of_zero n e = is_root_up (record { enough = omega arith; least = λ r h. omega arith })

pub next_is_root_up : (n low high : ℕ) → low * low < n → n ≤ high * high → high ≤ suc low → high ≡ root_up n
next_is_root_up n low high a b c = is_root_up (next_is_root n low high a b c)

-- a number that is near the root: it, or the next one
pub one_above_near : (n near : ℕ) → near * near < n → n ≤ near * near + 2 * near + 1 → near + 1 ≡ root_up n
one_above_near n near a b = next_is_root_up n near (near + 1) a (omega (arith, b)) (omega arith)

pub near_itself : (n near : ℕ) → n ≤ near * near → near * near + 2 ≤ n + 2 * near → near ≡ root_up n
near_itself n zero a b = absurd (omega arith)
near_itself n (suc k) a b = next_is_root_up n k (suc k) (omega (arith, b)) a (omega arith)

-- the root rounded down, where its square is all of the number
pub exact_is_root_up : (n r : ℕ) → r * r ≤ n → n ≤ r * r → r ≡ root_up n
exact_is_root_up n r a b = is_root_up (record { enough = b; least = λ s h. by_contra r s (λ l. omega (arith, square_below l)) })

-- ---- rounded down

pub root_down_law : (n : ℕ) → RootDown n (root_down n)
unfolding root_down
root_down_law n =
    let r : RootUp (n + 1) (root_up (n + 1)) = root_up_law (n + 1) in
    pred_cases (root_up (n + 1)) (RootDown n (pred (root_up (n + 1))))
    (λ z _. absurd (not_zero (root_up (n + 1)) r z))
    (λ e. one_less (root_up (n + 1)) (pred (root_up (n + 1))) r e)
  where
    not_zero : (k : ℕ) → RootUp (n + 1) k → k ≡ 0 → ⊥
    not_zero k r z = let l : n + 1 ≤ 0 * 0 = rw z at r.enough in omega arith

    one_less : (k j : ℕ) → RootUp (n + 1) k → j + 1 ≡ k → RootDown n j
    one_less k j r e =
        record {
          not_above = by_contra (j * j) n (λ l. omega (arith, r.least j (omega arith)));
          greatest = λ s h. by_contra s j (λ l. let m : k ≤ s = omega arith in omega (arith, r.enough, square_at_most m));
        }

-- a larger number has too large a square
pub square_above_root : {n r : ℕ} → RootDown n r → (s : ℕ) → r < s → n < s * s
square_above_root {n} p s l = by_contra _ _ (λ h. omega (arith, p.greatest s (omega arith)))

-- the number that obeys the law is the root
pub is_root_down : {n r : ℕ} → RootDown n r → r ≡ root_down n
is_root_down {n} p = root_down_unique p (root_down_law n)
