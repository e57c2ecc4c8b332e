-- The tests of an axis hold exactly where its numbers keep their rules. Assumes nothing.
use Prim.Native.Nat.{ℕ, zero, suc, ◌+◌, ◌-◌, ◌≤◌, ◌<◌}
use mathlib.Core.Path.{◌≡◌, refl}
use mathlib.Core.Bool.{Bool, true, false, ◌&&◌}
use mathlib.Core.List.{List}
use native.Mathlib.Numerals.{add-one}
use native.Mathlib.Omega.{arith}
use borrow.Author.Tests.{leb-true, ltb-true, le-leb, lt-ltb, ne_eqb}
use lib.Dec.{leb, eqb}
use lib.ListN.{get_or}
use Rattle.grid.specs.Every.{every}
use Rattle.refusal.specs.Outcome.{accepted}
use Rattle.grid.specs.Axis.{within, rises, axis_numbers, valid_numbers}
use Rattle.grid.specs.Rules.{InRange, AxisRules}
use Rattle.grid.specs.declared.Range.{Range}
use Rattle.grid.proofs.Every.{and_fst, and_snd, every_at, every_of}
use Rattle.grid.proofs.Numbers.{right_at, numbers_right, numbers_accepted}

-- ---- one number
module _ (range : Range) (n : ℕ) where
  pub in_range : within range n ≡ true → InRange range n
  unfolding within
  in_range e =
      (leb-true _ _ (and_fst (leb range.lowest n) (leb n range.highest) e), leb-true _ _ (and_snd (leb range.lowest n) (leb n range.highest) e))

  pub within_range : InRange range n → within range n ≡ true
  unfolding within
  within_range r = rw (le-leb _ _ r.0, le-leb _ _ r.1)

  pub not_in_range : within range n ≡ false → InRange range n → ⊥
  not_in_range e r =
      let s = within_range r in
      let z : ◌≡◌ {A = ℕ} 0 1 = cc in
      omega arith

  pub not_within : (InRange range n → ⊥) → within range n ≡ false
  not_within f = go (within range n) refl
    where
      go : (b : Bool) → within range n ≡ b → within range n ≡ false
      go true e = absurd (f (in_range e))
      go false e = e

pub rises_next : (ns : List ℕ) (k : ℕ) → rises ns (k + 1) ≡ true → get_or ns k 0 < get_or ns (k + 1) 0
unfolding rises
rises_next ns k e =
    let s : k + 1 - 1 ≡ k = omega arith in
    let z : eqb (k + 1) 0 ≡ false = ne_eqb (k + 1) 0 (omega arith) in
    ltb-true _ _ (rw (z, s) at e)

pub rises_of : (ns : List ℕ) (k : ℕ) → ((j : ℕ) → j + 1 ≡ k → get_or ns j 0 < get_or ns (j + 1) 0) → rises ns k ≡ true
unfolding rises
rises_of ns zero f = refl
rises_of ns (suc k) f =
    let s : suc k - 1 ≡ k = omega arith in
    rw (ne_eqb (suc k) 0 (omega arith), s, lt-ltb (get_or ns k 0) (get_or ns (suc k) 0) (rw add-one at (f k (omega arith))))

-- ---- all numbers
module _ (range : Range) (most : ℕ) (ns : List ℕ) (count : ℕ) where
  -- from the test to the rules
  pub axis_facts : valid_numbers most range ns count ≡ true → AxisRules range most ns count
  unfolding valid_numbers
  axis_facts e =
      let a = every (right_at range ns) count in
      let f = and_snd (leb 2 count) (leb count most && a) e in
      let right = every_at (right_at range ns) count (and_snd (leb count most) a f) in
      record {
        at_least = leb-true _ _ (and_fst (leb 2 count) (leb count most && a) e);
        at_most = leb-true _ _ (and_fst (leb count most) a f);
        ranges = λ k l. in_range range _ (and_fst (within range (get_or ns k 0)) (rises ns k) (right k l));
        rising = λ k l. rises_next ns k (and_snd (within range (get_or ns (k + 1) 0)) (rises ns (k + 1)) (right (k + 1) l));
      }

  every_right : AxisRules range most ns count → every (right_at range ns) count ≡ true
  every_right f =
      every_of (right_at range ns) count (λ k l. rw (within_range range (get_or ns k 0) (f.ranges k l)) (rises_of ns k (λ j e. f.rising j (omega arith))))

  -- and back
  pub axis_of : AxisRules range most ns count → valid_numbers most range ns count ≡ true
  unfolding valid_numbers
  axis_of f = rw (le-leb _ _ f.at_least, le-leb _ _ f.at_most) (every_right f)

  -- the same of the check that tells the first wrong number
  pub axis_accepted : 2 ≤ count → count ≤ most → axis_numbers range ns count ≡ accepted tt → AxisRules range most ns count
  unfolding valid_numbers
  axis_accepted a b e = axis_facts (rw (le-leb _ _ a, le-leb _ _ b) (numbers_right range ns count e))

  pub rules_accepted : AxisRules range most ns count → axis_numbers range ns count ≡ accepted tt
  rules_accepted f = numbers_accepted range ns count (every_right f)
