-- Laws of `every`, the test at every index below a number. Assumes nothing.
use Prim.Native.Nat.{ℕ, zero, suc, ◌+◌, ◌<◌}
use mathlib.Core.Path.{◌≡◌, refl}
use mathlib.Core.Bool.{Bool, true, false, ◌&&◌}
use mathlib.Core.Logic.{◌⊎◌, inl, inr}
use native.Mathlib.Numerals.{add-one}
use native.Mathlib.Omega.{arith}
use native.Mathlib.Decide.{dec_lt}
use Rattle.grid.specs.Every.{every}

pub and_false : (b : Bool) → (b && false) ≡ false
and_false true = refl
and_false false = refl

-- both parts of a conjunction that holds
pub and_fst : (a b : Bool) → (a && b) ≡ true → a ≡ true
and_fst true b e = refl
and_fst false b e = e

pub and_snd : (a b : Bool) → (a && b) ≡ true → b ≡ true
and_snd true b e = e
and_snd false b e = cc

-- and one part that does not, where it does not hold
pub and_not : (a b : Bool) → (a && b) ≡ false → (a ≡ false) ⊎ (b ≡ false)
and_not true b e = inr e
and_not false b e = inl refl

at_step : (test : ℕ → Bool) (n k : ℕ) → k < suc n → test n ≡ true → (k < n → test k ≡ true) → Dec (k < n) → test k ≡ true
at_step test n k l h f (yes q) = f q
at_step test n k l h f (no q) = let e : k ≡ n = omega arith in rw e h

-- what holds at every index holds at each
pub every_at : (test : ℕ → Bool) (n : ℕ) → every test n ≡ true → (k : ℕ) → k < n → test k ≡ true
unfolding every
every_at test zero h k l = absurd (omega arith)
every_at test (suc n) h k l =
    at_step test n k l (and_snd (every test n) (test n) h) (λ q. every_at test n (and_fst (every test n) (test n) h) k q) (dec_lt k n)

-- and back
pub every_of : (test : ℕ → Bool) (n : ℕ) → ((k : ℕ) → k < n → test k ≡ true) → every test n ≡ true
unfolding every
every_of test zero h = refl
every_of test (suc n) h = rw (every_of test n (λ k l. h k (omega arith)), h n (omega arith))

fails_step : (test : ℕ → Bool) (i n : ℕ) → i < suc n → test i ≡ false → (i < n → every test n ≡ false) → Dec (i < n) → (every test n && test n) ≡ false
fails_step test i n l e f (yes q) = rw (f q)
fails_step test i n l e f (no q) = let s : n ≡ i = omega arith in rw (s, e) (and_false (every test i))

-- one index at which the test fails
pub every_fails : (test : ℕ → Bool) (i n : ℕ) → i < n → test i ≡ false → every test n ≡ false
unfolding every
every_fails test i zero l e = absurd (omega arith)
every_fails test i (suc n) l e = fails_step test i n l e (λ q. every_fails test i n q e) (dec_lt i n)

-- ---- a flag that a loop carries along
-- tests that agree below n
pub every_same : (f g : ℕ → Bool) (n : ℕ) → ((i : ℕ) → i < n → f i ≡ g i) → every f n ≡ every g n
unfolding every
every_same f g zero same = refl
every_same f g (suc n) same =
    let here : f n ≡ g n = same n (omega arith) in
    rw (every_same f g n (λ i h. same i (omega arith)), here)

pub flag_first : (test : ℕ → Bool) (b : Bool) → b ≡ test 0 → b ≡ every test 1
unfolding every
flag_first test b h = h

pub flag_more : (test : ℕ → Bool) (i : ℕ) (a b : Bool) → a ≡ every test i → b ≡ test i → (a && b) ≡ every test (i + 1)
unfolding every
flag_more test i a b h k = rw (add-one, h, k)

pub flag_done : (test : ℕ → Bool) (i n : ℕ) (b : Bool) → b ≡ every test i → i ≡ n → b ≡ every test n
flag_done test i n b h e = rw (← e) h
