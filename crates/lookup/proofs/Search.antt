-- What `last_up_to` finds: the last index at which a test holds. Assumes nothing.
use Rattle.std.proofs.Common.{◌≡◌, ℕ, zero, suc, ◌≤◌, ◌<◌, Bool, true, false, cond, refl, arith}
use native.Mathlib.Decide.{dec_lt}
use Rattle.lookup.specs.Loss.{last_up_to}

-- i is the last index from 1 to n at which the test holds, or 0
pub record IsLast (test : ℕ → Bool) (n i : ℕ) : Type 0 where
  pub at_most : i ≤ n
  pub holds : 0 < i → test i ≡ true
  pub fails : (k : ℕ) → i < k → k ≤ n → test k ≡ false

pub last_found : (test : ℕ → Bool) (n : ℕ) → IsLast test n (last_up_to test n)
unfolding last_up_to
last_found test zero = record { at_most = omega arith; holds = λ l. absurd (omega arith); fails = λ k a b. absurd (omega arith) }
last_found test (suc n) = go (test (suc n)) refl (last_found test n)
  where
    go : (b : Bool) → test (suc n) ≡ b → IsLast test n (last_up_to test n) → IsLast test (suc n) (cond b (suc n) (last_up_to test n))
    go true e h = record { at_most = omega arith; holds = λ l. e; fails = λ k a b. absurd (omega arith) }
    go false e h = record { at_most = omega arith; holds = h.holds; fails = λ k a b. fails k a b (dec_lt n k) }
      where
        fails : (k : ℕ) → last_up_to test n < k → k ≤ suc n → Dec (n < k) → test k ≡ false
        fails k a b (yes l) = let s : k ≡ suc n = omega arith in rw (s, e)
        fails k a b (no l) = h.fails k a (omega arith)

pub last_unique : (test : ℕ → Bool) (n i j : ℕ) → IsLast test n i → IsLast test n j → i ≡ j
last_unique test n i j a b = grind (arith, a.holds, a.fails j, b.holds, b.fails i)
