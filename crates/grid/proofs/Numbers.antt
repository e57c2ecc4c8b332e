-- Laws of the numbers of an axis: when they are accepted, and which refusal they give. Assumes nothing.
use Prim.Native.Nat.{ℕ, ◌<◌, zero-le}
use Rattle.std.proofs.Common.{◌-◌, ◌∙◌, leb, length, take}
use Rattle.std.specs.Borrow.{Bor}
use Rattle.std.specs.Prelude.{Option, Some, None}
use Rattle.std.specs.Option.{MatchOption}
use borrow.Author.Tests.{le-leb, lt-leb}
use Rattle.std.proofs.lemmas.List.{get_or-take}
use mathlib.Core.Path.{◌≡◌, refl, sym, ap}
use mathlib.Core.Bool.{Bool, true, false, ◌&&◌}
use mathlib.Core.List.{List}
use mathlib.Core.Logic.{◌⊎◌, inl, inr}
use native.Mathlib.Omega.{arith}
use lib.ListN.{get_or}
use Rattle.refusal.specs.Outcome.{Told, refusal, accepted, refused, refuse, require, ◌>>=◌}
use Rattle.grid.specs.Every.{every}
use Rattle.grid.specs.Axis.{within, rises, axis_number, axis_numbers, valid_numbers}
use Rattle.grid.specs.declared.Range.{Range}
use Rattle.grid.specs.Counted.{Counted, CountedNumbers}
use Rattle.grid.proofs.Every.{and_false, and_fst, and_snd, every_at, every_of, every_same}
use Rattle.refusal.proofs.Steps.{never, same_refusal}
use Rattle.refusal.proofs.First.{first_all, first_of, first_found}

-- number i is in its range and above the one before
abbrev pub right_at : Range → List ℕ → ℕ → Bool
right_at range ns i = within range (get_or ns i 0) && rises ns i

and_true : (b : Bool) → b ≡ (b && true)
and_true true = refl
and_true false = refl

-- the first number has none before it
pub right_first : (range : Range) (ns : List ℕ) → within range (get_or ns 0 0) ≡ right_at range ns 0
unfolding rises
right_first range ns = and_true (within range (get_or ns 0 0))

-- the numbers of an axis are the first of its places
right_of_first : (range : Range) (ns : List ℕ) (count i : ℕ) → i < count → right_at range (take count ns) i ≡ right_at range ns i
unfolding rises
right_of_first range ns count i h =
    let here = get_or-take count ns i 0 h in
    let before : get_or (take count ns) (i - 1) 0 ≡ get_or ns (i - 1) 0 = get_or-take count ns (i - 1) 0 (omega arith) in
    rw (here, before)

counted_right : {places count : ℕ} {ns part : List ℕ} (range : Range) → CountedNumbers places ns count part
    → every (right_at range part) (length part) ≡ valid_numbers places range ns count
unfolding valid_numbers
counted_right {places} {count} {ns} {part} range c =
    rw (le-leb 2 count c.at_least, le-leb count places c.at_most, c.long, c.numbers) (every_same _ _ count (right_of_first range ns count))

not_counted : (places : ℕ) (range : Range) (ns : List ℕ) (count : ℕ) → (count < 2) ⊎ (places < count) → false ≡ valid_numbers places range ns count
unfolding valid_numbers
not_counted places range ns count (inl few) = rw (lt-leb 2 count few)
not_counted places range ns count (inr many) = rw (lt-leb count places many) (sym (and_false (leb 2 count)))

-- the test of the counted numbers, and false where there are none
pub counted_tells : (places count : ℕ) (ns : List ℕ) {valid : Bool} (range : Range) (numbers : Option (Bor (List ℕ))) → Counted places ns count numbers
    → MatchOption numbers (valid ≡ false) (λ part. valid ≡ every (right_at range part.now) (length part.now)) → valid ≡ valid_numbers places range ns count
counted_tells places count ns range None c e = e ∙ not_counted places range ns count c
counted_tells places count ns range (Some part) c e = e ∙ counted_right range c

-- ---- one number
pub number_right : (range : Range) (ns : List ℕ) (i : ℕ) → within range (get_or ns i 0) ≡ true → rises ns i ≡ true → axis_number range ns i ≡ accepted tt
unfolding axis_number
number_right range ns i e f = rw (e, f)

pub number_outside : (range : Range) (ns : List ℕ) (i : ℕ) → within range (get_or ns i 0) ≡ false → axis_number range ns i ≡ refuse 4 i
unfolding axis_number
number_outside range ns i e = rw e

pub number_level : (range : Range) (ns : List ℕ) (i : ℕ) → within range (get_or ns i 0) ≡ true → rises ns i ≡ false → axis_number range ns i ≡ refuse 5 i
unfolding axis_number
number_level range ns i e f = rw (e, f)

-- what is wrong with number i, and how it is told: it is out of its range, or in it and not above the one before
abbrev pub Wrong : Range → List ℕ → ℕ → Told → Type 0
Wrong range ns i t =
    ((t ≡ refusal 4 i) × (within range (get_or ns i 0) ≡ false)) ⊎ ((t ≡ refusal 5 i) × (within range (get_or ns i 0) ≡ true) × (rises ns i ≡ false))

pub wrong_place : (range : Range) (ns : List ℕ) (i : ℕ) (t : Told) → Wrong range ns i t → t.place ≡ i
wrong_place range ns i t (inl w) = ap (λ (u : Told). u.place) w.0
wrong_place range ns i t (inr w) = ap (λ (u : Told). u.place) w.0

two_tests : (i : ℕ) (a b : Bool) → (require a 4 i >>= λ _. require b 5 i) ≡ accepted tt → (a && b) ≡ true
two_tests i true true e = refl
two_tests i true false e = cc
two_tests i false b e = cc

pub number_accepted : (range : Range) (ns : List ℕ) (i : ℕ) → axis_number range ns i ≡ accepted tt → right_at range ns i ≡ true
unfolding axis_number
number_accepted range ns i e = two_tests i (within range (get_or ns i 0)) (rises ns i) e

which_test : (i : ℕ) (t : Told) (a b : Bool) → (require a 4 i >>= λ _. require b 5 i) ≡ refused t
    → ((t ≡ refusal 4 i) × (a ≡ false)) ⊎ ((t ≡ refusal 5 i) × (a ≡ true) × (b ≡ false))
which_test i t true true e = never t tt (sym e)
which_test i t true false e = inr (sym (same_refusal (refusal 5 i) t e), refl, refl)
which_test i t false b e = inl (sym (same_refusal (refusal 4 i) t e), refl)

pub number_refused : (range : Range) (ns : List ℕ) (i : ℕ) (t : Told) → axis_number range ns i ≡ refused t → Wrong range ns i t
unfolding axis_number
number_refused range ns i t e = which_test i t (within range (get_or ns i 0)) (rises ns i) e

-- ---- all numbers
-- they are accepted exactly when each is right
pub numbers_right : (range : Range) (ns : List ℕ) (count : ℕ) → axis_numbers range ns count ≡ accepted tt → every (right_at range ns) count ≡ true
unfolding axis_numbers
numbers_right range ns count e =
    every_of (right_at range ns) count (λ k l. number_accepted range ns k (first_all (axis_number range ns) 0 count e k zero-le (omega arith)))

pub numbers_accepted : (range : Range) (ns : List ℕ) (count : ℕ) → every (right_at range ns) count ≡ true → axis_numbers range ns count ≡ accepted tt
unfolding axis_numbers
numbers_accepted range ns count e = first_of (axis_number range ns) count go
  where
    go : (k : ℕ) → k < count → axis_number range ns k ≡ accepted tt
    go k l =
        let a = within range (get_or ns k 0) in
        let h = every_at (right_at range ns) count e k l in
        number_right range ns k (and_fst a (rises ns k) h) (and_snd a (rises ns k) h)

-- a refusal tells the first number that is wrong
pub record FirstWrong (range : Range) (ns : List ℕ) (count : ℕ) (t : Told) : Type 0 where
  pub index : ℕ
  pub below : index < count
  pub right : (k : ℕ) → k < index → right_at range ns k ≡ true
  pub wrong : Wrong range ns index t

pub numbers_refused : (range : Range) (ns : List ℕ) (count : ℕ) (t : Told) → axis_numbers range ns count ≡ refused t → FirstWrong range ns count t
unfolding axis_numbers
numbers_refused range ns count t e =
    let s = first_found (axis_number range ns) 0 count t e in
    record {
      index = s.at;
      below = omega arith;
      right = λ k l. number_accepted range ns k (s.passed k zero-le l);
      wrong = number_refused range ns s.at t s.here;
    }
