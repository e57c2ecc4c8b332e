-- Bodies of one number and of axis numbers. Assumes nothing.
use Prim.Native.Nat.{ℕ, ◌+◌, ◌*◌, ◌/◌, ◌<◌, ◌≤◌}
use mathlib.Core.Path.{◌≡◌, sym, ◌∙◌}
use mathlib.Core.Bool.{Bool, true, false}
use mathlib.Core.List.{List, ◌++◌}
use native.Mathlib.Omega.{arith}
use lib.ListN.{length, take, drop}
use lib.Seq.{take_at, get_or-take}
use Rattle.refusal.specs.Outcome.{Told, refusal, accepted, refused, refuse}
use Rattle.grid.specs.Axis.{within, axis_numbers, first_step}
use Rattle.grid.specs.declared.Range.{Range}
use Rattle.grid.proofs.Numbers.{wrong_place, numbers_refused}
use Rattle.fields.specs.Bytes.{number_of, pairs}
use Rattle.fields.specs.Field.{number, axis}
use Rattle.fields.proofs.Pairs.{length_pairs}

module _ (body : List ℕ) (place n : ℕ) (range : Range) (refused_at : ℕ → Told) (b : Bool) (e : n ≡ number_of body) (w : b ≡ within range n) where
  pub number_accepted : b ≡ true → accepted n ≡ number range refused_at body place
  unfolding number
  number_accepted t = rw (← e, ← w, t)

  pub number_refused : b ≡ false → refused (refused_at place) ≡ number range refused_at body place
  unfolding number
  number_refused t = rw (← e, ← w, t)

-- the numbers of a body, once they are written to the first places
module _ (body before numbers : List ℕ) (place : ℕ) (range : Range) (filled : numbers ≡ pairs body ++ drop (length body / 2) before) where
  pub first_numbers : take (length body / 2) numbers ≡ pairs body
  first_numbers = rw filled (take_at (pairs body) _ (length body / 2) (length_pairs body))

  module _ (part : List ℕ) (e : part ≡ take (length body / 2) numbers) where
    the_numbers : part ≡ pairs body
    the_numbers = e ∙ first_numbers

    pub axis_accepted : accepted tt ≡ axis_numbers range part (length part) → accepted (take (length body / 2) numbers) ≡ axis range body place
    unfolding axis
    axis_accepted h = rw (first_numbers, ← (rw the_numbers at h))

    pub axis_refused : (number i : ℕ) → refuse number i ≡ axis_numbers range part (length part) → refuse number (place + 2 * i) ≡ axis range body place
    unfolding axis
    axis_refused number i h = rw (← (rw the_numbers at h))

    pub index_below : (number i : ℕ) → refuse number i ≡ axis_numbers range part (length part) → i < length body / 2
    index_below number i h =
        let f = numbers_refused range (pairs body) (length (pairs body)) _ (sym (rw the_numbers at h)) in
        omega (arith, wrong_place range (pairs body) f.index (refusal number i) f.wrong, f.below, length_pairs body)

-- the first two numbers of an axis are those of the list that they were written to
pub first_step_lem : (ns : List ℕ) (count : ℕ) (b : Bool) → 2 ≤ count → first_step ns ≡ b → first_step (take count ns) ≡ b
unfolding first_step
first_step_lem ns count b h e =
    let h0 : 0 < count = omega arith in
    let h1 : 1 < count = omega arith in
    rw (get_or-take count ns 1 0 h1, get_or-take count ns 0 0 h0, e)
