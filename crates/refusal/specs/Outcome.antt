-- What comes of a call in document 01's terms: a value, or a refusal with its number, its place and, where it is of one of several numbers or points, its index. Steps are joined by `do`, so that the order of tests is the order of lines.
use Rattle.std.specs.Prelude.{ℕ, zero, suc, Bool, if◌then◌else◌, Option, Some, None}

-- a refusal as document 01 tells it, "Returned" and "Place given"; and where document 02, C-14, wants it, "which number of the field it was, from 0"; so of many points that are asked for at once, which point
pub record Told : Type 0 where
  pub number : ℕ
  pub place : ℕ
  pub index : Option ℕ

-- the refusal of this number and place, which tells no index
abbrev pub refusal : (number place : ℕ) → Told
refusal number place = record { number = number; place = place; index = None }

-- and one that is of the number, or the point, with this index
abbrev pub refusal_with_index : (number place index : ℕ) → Told
refusal_with_index number place index = record { number = number; place = place; index = Some index }

-- the same refusal with another place
abbrev pub at_place : (place : ℕ) → Told → Told
at_place place t = record { number = t.number; place = place; index = t.index }

pub data Outcome (A : Type 0) : Type 0 where
  accepted : A → Outcome A
  refused : Told → Outcome A

-- it ends in the refusal of this number and place
abbrev pub refuse : {A : Type 0} → (number place : ℕ) → Outcome A
refuse number place = refused (refusal number place)

infixl 10 ◌>>=◌
-- the first refusal ends it
abbrev pub ◌>>=◌ : {A B : Type 0} → Outcome A → (A → Outcome B) → Outcome B
◌>>=◌ (accepted a) next = next a
◌>>=◌ (refused t) next = refused t

-- the test must hold: where it does not, this refusal
abbrev pub require_told : Bool → Told → Outcome (Unit {0})
require_told test t = if test then accepted tt else refused t

-- or the refusal of this number and place
abbrev pub require : Bool → (number place : ℕ) → Outcome (Unit {0})
require test number place = require_told test (refusal number place)

-- the tests at i, i + 1 and so on, count of them: the first refusal among them
unfoldable pub first_refusal : (ℕ → Outcome (Unit {0})) → (i count : ℕ) → Outcome (Unit {0})
first_refusal test i zero = accepted tt
first_refusal test i (suc count) = do
  _ ← test i
  first_refusal test (suc i) count

-- the same outcome with another place
abbrev pub placed : {A : Type 0} → (ℕ → ℕ) → Outcome A → Outcome A
placed at (accepted a) = accepted a
placed at (refused t) = refused (at_place (at t.place) t)

-- and with place 0
abbrev pub without_place : {A : Type 0} → Outcome A → Outcome A
without_place outcome = placed (λ place. 0) outcome
