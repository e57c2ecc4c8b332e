-- What a sequence of steps says of each step. Assumes nothing.
use Prim.Native.Nat.{ℕ}
use mathlib.Core.Path.{◌≡◌, refl, sym, ap}
use mathlib.Core.Bool.{Bool, true, false}
use mathlib.Core.Logic.{◌⊎◌, inl, inr}
use native.Mathlib.Omega.{arith}
use Rattle.refusal.specs.Outcome.{Told, refusal, at_place, Outcome, accepted, refused, ◌>>=◌, require_told, require, placed}

-- a refusal is no value
pub never : {A P : Type 0} (t : Told) (a : A) → ◌≡◌ {A = Outcome A} (refused t) (accepted a) → P
never t a e = let z : ◌≡◌ {A = ℕ} 0 1 = cc in absurd (omega arith)

pub same_value : {A : Type 0} (a b : A) → ◌≡◌ {A = Outcome A} (accepted a) (accepted b) → a ≡ b
same_value a b e = cc

pub same_refusal : {A : Type 0} (t u : Told) → ◌≡◌ {A = Outcome A} (refused t) (refused u) → t ≡ u
same_refusal t u e = cc

-- a sequence that is accepted: its first step is, and so is the rest
pub then_accepted : {A B : Type 0} (o : Outcome A) (next : A → Outcome B) (b : B) → (o >>= next) ≡ accepted b → (a : A) × (o ≡ accepted a) × (next a ≡ accepted b)
then_accepted (accepted a) next b e = (a, refl, e)
then_accepted (refused t) next b e = never t b e

-- a sequence that is refused: its first step is, or that is accepted and the rest is refused
pub then_refused : {A B : Type 0} (o : Outcome A) (next : A → Outcome B) (t : Told) → (o >>= next) ≡ refused t → (o ≡ refused t) ⊎ ((a : A) × (o ≡ accepted a) × (next a ≡ refused t))
then_refused (accepted a) next t e = inr (a, refl, e)
then_refused (refused u) next t e = inl (ap (λ (v : Told). refused v) (same_refusal u t e))

-- the same where the first step is a test
pub test_accepted : {B : Type 0} (test : Bool) (number place : ℕ) (next : Outcome B) (b : B) → (require test number place >>= λ _. next) ≡ accepted b → (test ≡ true) × (next ≡ accepted b)
test_accepted true number place next b e = (refl, e)
test_accepted false number place next b e = never (refusal number place) b e

pub test_refused : {B : Type 0} (test : Bool) (number place : ℕ) (next : Outcome B) (t : Told) → (require test number place >>= λ _. next) ≡ refused t
    → ((test ≡ false) × (t ≡ refusal number place)) ⊎ ((test ≡ true) × (next ≡ refused t))
test_refused true number place next t e = inr (refl, e)
test_refused false number place next t e = inl (refl, sym (same_refusal (refusal number place) t e))

-- and where the test is the last step, whatever it tells
pub require_accepted : (test : Bool) (t : Told) → require_told test t ≡ accepted tt → test ≡ true
require_accepted true t e = refl
require_accepted false t e = never t tt e

pub require_refused : (test : Bool) (t u : Told) → require_told test t ≡ refused u → (test ≡ false) × (u ≡ t)
require_refused true t u e = never u tt (sym e)
require_refused false t u e = (refl, sym (same_refusal t u e))

-- another place: accepted stays so
pub placed_accepted : {A : Type 0} (at : ℕ → ℕ) (o : Outcome A) (a : A) → placed at o ≡ accepted a → o ≡ accepted a
placed_accepted at (accepted b) a e = e
placed_accepted at (refused t) a e = never (at_place (at t.place) t) a e
