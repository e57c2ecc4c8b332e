-- Laws of `first_refusal`, the first refusal among tests at an index and those after it. Assumes nothing.
use Prim.Native.Nat.{ℕ, zero, suc, ◌+◌, ◌-◌, ◌≤◌, ◌<◌}
use mathlib.Core.Path.{◌≡◌, refl, sym, ◌∙◌}
use native.Mathlib.Numerals.{add-one}
use native.Mathlib.Nat.{sub-zero}
use native.Mathlib.Omega.{arith}
use native.Mathlib.Decide.{dec_lt}
use Rattle.refusal.specs.Outcome.{Told, Outcome, accepted, refused, ◌>>=◌, first_refusal}

less_one : (i n : ℕ) → i < n → n - i ≡ suc (n - (i + 1))
less_one i n h = omega arith

-- none is left to test
pub first_none : (test : ℕ → Outcome (Unit {0})) (i n : ℕ) → n ≤ i → first_refusal test i (n - i) ≡ accepted tt
unfolding first_refusal
first_none test i n h =
    let z : n - i ≡ 0 = omega arith in
    rw z

-- one more is accepted
pub first_more : (test : ℕ → Outcome (Unit {0})) (i n : ℕ) → i < n → test i ≡ accepted tt → first_refusal test i (n - i) ≡ first_refusal test (i + 1) (n - (i + 1))
unfolding first_refusal
first_more test i n h e = rw (less_one i n h, e, ← add-one i)

-- it stops at the first that is refused
pub first_stops : (test : ℕ → Outcome (Unit {0})) (i n : ℕ) (t : Told) → i < n → test i ≡ refused t → first_refusal test i (n - i) ≡ refused t
unfolding first_refusal
first_stops test i n t h e = rw (less_one i n h, e)

-- where the first i are accepted, the rest decides
pub first_rest : (test : ℕ → Outcome (Unit {0})) (n i : ℕ) → i ≤ n → ((k : ℕ) → k < i → test k ≡ accepted tt) → first_refusal test 0 n ≡ first_refusal test i (n - i)
first_rest test n zero h f =
    let z : n - 0 ≡ n = omega arith in
    rw z
first_rest test n (suc i) h f =
    first_rest test n i (omega arith) (λ k l. f k (omega arith)) ∙ (rw add-one at (first_more test i n (omega arith) (f i (omega arith))))

-- a test that refuses after ones that accept is the first refusal
pub first_refused : (test : ℕ → Outcome (Unit {0})) (n i : ℕ) (t : Told) → i < n → ((k : ℕ) → k < i → test k ≡ accepted tt) → test i ≡ refused t
    → first_refusal test 0 n ≡ refused t
first_refused test n i t h f e = first_rest test n i (omega arith) f ∙ first_stops test i n t h e

-- ---- a loop over the tests: the first i were accepted, and the rest decides
pub record Passed (test : ℕ → Outcome (Unit {0})) (count i : ℕ) : Type 0 where
  pub below : i ≤ count
  pub rest : first_refusal test 0 count ≡ first_refusal test i (count - i)

module _ (test : ℕ → Outcome (Unit {0})) (count : ℕ) where
  pub none_passed : Passed test count 0
  none_passed = record { below = omega arith; rest = rw sub-zero }

  module _ {i : ℕ} (p : Passed test count i) where
    pub one_passed : i < count → test i ≡ accepted tt → Passed test count (i + 1)
    one_passed more fine = record { below = omega arith; rest = p.rest ∙ first_more test i count more fine }

    pub refused_there : i < count → (t : Told) → test i ≡ refused t → refused t ≡ first_refusal test 0 count
    refused_there more t e = sym (p.rest ∙ first_stops test i count t more e)

    pub all_passed : count ≤ i → accepted tt ≡ first_refusal test 0 count
    all_passed end = sym (p.rest ∙ first_none test i count end)

-- both parts of a sequence that is accepted
then_fst : (o next : Outcome (Unit {0})) → (o >>= λ _. next) ≡ accepted tt → o ≡ accepted tt
then_fst (accepted u) next e = refl
then_fst (refused t) next e = cc

then_snd : (o next : Outcome (Unit {0})) → (o >>= λ _. next) ≡ accepted tt → next ≡ accepted tt
then_snd (accepted u) next e = e
then_snd (refused t) next e = cc

all_step : (test : ℕ → Outcome (Unit {0})) (i : ℕ) (next : Outcome (Unit {0})) → (test i >>= λ _. next) ≡ accepted tt → (k : ℕ) → i ≤ k → (next ≡ accepted tt → i < k → test k ≡ accepted tt) → Dec (i < k) → test k ≡ accepted tt
all_step test i next e k a f (yes q) = f (then_snd (test i) next e) q
all_step test i next e k a f (no q) = let s : k ≡ i = omega arith in rw s (then_fst (test i) next e)

-- where nothing is refused, each is accepted
pub first_all : (test : ℕ → Outcome (Unit {0})) (i count : ℕ) → first_refusal test i count ≡ accepted tt → (k : ℕ) → i ≤ k → k < i + count → test k ≡ accepted tt
unfolding first_refusal
first_all test i zero e k a b = absurd (omega arith)
first_all test i (suc count) e k a b =
    all_step test i (first_refusal test (suc i) count) e k a (λ r q. first_all test (suc i) count r k q (omega arith)) (dec_lt i k)

-- and back
pub first_of : (test : ℕ → Outcome (Unit {0})) (n : ℕ) → ((k : ℕ) → k < n → test k ≡ accepted tt) → first_refusal test 0 n ≡ accepted tt
first_of test n f = first_rest test n n (omega arith) f ∙ first_none test n n (omega arith)

-- where it stopped: each before was accepted
pub record Stop (test : ℕ → Outcome (Unit {0})) (i count : ℕ) (t : Told) : Type 0 where
  pub at : ℕ
  pub from : i ≤ at
  pub below : at < i + count
  pub here : test at ≡ refused t
  pub passed : (k : ℕ) → i ≤ k → k < at → test k ≡ accepted tt

later : (test : ℕ → Outcome (Unit {0})) (i count : ℕ) (t : Told) → test i ≡ accepted tt → Stop test (suc i) count t → Stop test i (suc count) t
later test i count t h s =
    record { at = s.at; from = omega arith; below = omega arith; here = s.here; passed = λ k a b. go k a b (dec_lt i k) }
  where
    go : (k : ℕ) → i ≤ k → k < s.at → Dec (i < k) → test k ≡ accepted tt
    go k a b (yes q) = s.passed k q b
    go k a b (no q) = let e : k ≡ i = omega arith in rw e h

found_step : (test : ℕ → Outcome (Unit {0})) (i count : ℕ) (t : Told) (next : Outcome (Unit {0})) → (next ≡ refused t → Stop test (suc i) count t) → (o : Outcome (Unit {0})) → test i ≡ o → (o >>= λ _. next) ≡ refused t → Stop test i (suc count) t
found_step test i count t next f (accepted u) h e = later test i count t h (f e)
found_step test i count t next f (refused u) h e =
    record { at = i; from = omega arith; below = omega arith; here = h ∙ e; passed = λ k a b. absurd (omega arith) }

-- a refusal is that of the first test that refuses
pub first_found : (test : ℕ → Outcome (Unit {0})) (i count : ℕ) (t : Told) → first_refusal test i count ≡ refused t → Stop test i count t
unfolding first_refusal
first_found test i zero t e = let z : ◌≡◌ {A = ℕ} 0 1 = cc in absurd (omega arith)
first_found test i (suc count) t e =
    found_step test i count t (first_refusal test (suc i) count) (first_found test (suc i) count t) (test i) refl e
