-- The losses at many points: when they are answered, what a call leaves, and that each is the one of a single question. Assumes nothing.
use Rattle.std.proofs.Common.{◌≡◌, ℕ, ◌≤◌, ◌<◌, true, false, leb, List, ℤ, pos, length, refl, sym, ap, arith, None, Ok, Err}
use mathlib.Core.Logic.{⊎_elim}
use borrow.Author.Tests.{leb-true, leb-false, le-leb, lt-leb}
use Rattle.std.proofs.lemmas.Bool.{both_ways}
use lib.ListN.{get_or-append}
use Rattle.refusal.specs.Outcome.{Told, refusal_with_index, Outcome, accepted, refused, first_refusal}
use Rattle.refusal.proofs.Steps.{never, same_value, test_accepted, test_refused, then_accepted, then_refused}
use Rattle.refusal.proofs.First.{Stop, first_of, first_all, first_found, first_refused}
use Rattle.grid.specs.Lists.{tabulate}
use Rattle.grid.specs.Map.{valid_map}
use Rattle.grid.specs.Rules.{MapRules}
use Rattle.grid.specs.declared.Grid.{Grid}
use Rattle.grid.proofs.Lists.{length_tabulate, tabulate_at}
use Rattle.grid.proofs.Map.{map_facts, map_of_lem, map_not}
use Rattle.cell.specs.declared.Point.{Point}
use Rattle.lookup.specs.Loss.{map_loss}
use Rattle.lookup.specs.Losses.{point_at, of_point, point_check, point_losses, losses_answer, told_of_point, losses_after, LeavesLosses, EachLoss, WithinMap, LossesFault, not_a_map, no_room, point_refused, LossesDecided}
use Rattle.lookup.specs.declared.LossesRefusal.{LossesRefusal}
use Rattle.lookup.proofs.Queries.{loss_answered, answered_within}
use Rattle.lookup.proofs.Decided.{queries_decided}

-- ---- what is said of one point

accepted_of : (i : ℕ) (o : Outcome ℤ) → of_point i o ≡ accepted tt → (z : ℤ) × (o ≡ accepted z)
accepted_of i (accepted z) e = (z, refl)
accepted_of i (refused t) e = never _ _ e

refused_of : (i : ℕ) (o : Outcome ℤ) (t : Told) → of_point i o ≡ refused t → (one : Told) × (o ≡ refused one) × (t ≡ refusal_with_index one.number one.place i)
refused_of i (accepted z) t e = never t _ (sym e)
refused_of i (refused one) t e = (one, refl, cc)

module _ (grid : Grid) (entries : List ℕ) (points : List Point) where
  abbrev test : ℕ → Outcome (Unit {0})
  test = point_check grid entries points

  fine : MapRules grid entries → (i : ℕ) → WithinMap grid (point_at points i) → test i ≡ accepted tt
  fine rules i w = rw (loss_answered grid entries (point_at points i) (map_of_lem grid entries rules) w)

  within : (i : ℕ) → test i ≡ accepted tt → WithinMap grid (point_at points i)
  within i e = let a = accepted_of i _ e in (answered_within grid entries (point_at points i) a.0 a.1).1

  -- where all points passed, each is within the limits
  pub all_within : accepted tt ≡ first_refusal test 0 (length points) → (i : ℕ) → i < length points → WithinMap grid (point_at points i)
  all_within e i h = within i (first_all test 0 (length points) (sym e) i (omega arith) (omega arith))

  -- ---- when they are answered

  module _ (room : ℕ) where
    pub losses_answered : valid_map grid entries ≡ true → length points ≤ room → accepted tt ≡ first_refusal test 0 (length points) → losses_answer grid entries points room ≡ accepted (point_losses grid entries points)
    unfolding losses_answer
    losses_answered valid enough all = rw (valid, le-leb _ _ enough, ← all)

    pub map_refused : valid_map grid entries ≡ false → losses_answer grid entries points room ≡ refused (record { number = 22; place = 0; index = None })
    unfolding losses_answer
    map_refused e = rw e

    pub room_refused : valid_map grid entries ≡ true → room < length points → losses_answer grid entries points room ≡ refused (record { number = 11; place = length points; index = None })
    unfolding losses_answer
    room_refused valid h = rw (valid, lt-leb _ _ h)

    pub first_refused_answer : valid_map grid entries ≡ true → length points ≤ room → (t : Told) → refused t ≡ first_refusal test 0 (length points) → losses_answer grid entries points room ≡ refused t
    unfolding losses_answer
    first_refused_answer valid enough t e = rw (valid, le-leb _ _ enough, ← e)

    refused_for : (t : Told) → LossesFault grid entries points room t → losses_answer grid entries points room ≡ refused t
    refused_for t (not_a_map broken e) = rw e (map_refused (map_not grid entries broken))
    refused_for t (no_room rules h e) = rw e (room_refused (map_of_lem grid entries rules) h)
    refused_for t (point_refused i one rules enough h before fault e) =
        let here : test i ≡ refused t = rw (e, (queries_decided.loss grid entries (point_at points i)).refused_for one fault) in
        first_refused_answer (map_of_lem grid entries rules) enough t (sym (first_refused test (length points) i t h (λ k l. fine rules k (before k l)) here))

    stopped : MapRules grid entries → length points ≤ room → (t : Told) → Stop test 0 (length points) t → LossesFault grid entries points room t
    stopped rules enough t s =
        let one = refused_of s.at _ t s.here in
        point_refused s.at one.0 rules enough (omega (arith, s.below)) (λ k l. within k (s.passed k (omega arith) l))
        ((queries_decided.loss grid entries (point_at points s.at)).refused_only one.0 one.1) one.2

    refused_only : (t : Told) → losses_answer grid entries points room ≡ refused t → LossesFault grid entries points room t
    unfolding losses_answer
    refused_only t e =
        ⊎_elim
        (λ a. not_a_map (λ rules. both_ways _ a.0 (map_of_lem grid entries rules)) a.1)
        (λ a.
        let rules = map_facts grid entries a.0 in
        ⊎_elim
        (λ b. no_room rules (leb-false _ _ b.0) b.1)
        (λ b.
        ⊎_elim
        (λ c. stopped rules (leb-true _ _ b.0) t (first_found test 0 (length points) t c))
        (λ c. never t _ (sym c.2))
        (then_refused (first_refusal test 0 (length points)) (λ u. accepted (point_losses grid entries points)) t b.1))
        (test_refused (leb (length points) room) 11 (length points) _ t a.1))
        (test_refused (valid_map grid entries) 22 0 _ t e)

    answered_only : (losses : List ℤ) → losses_answer grid entries points room ≡ accepted losses
        → MapRules grid entries × (length points ≤ room) × ((i : ℕ) → i < length points → WithinMap grid (point_at points i)) × (losses ≡ point_losses grid entries points)
    unfolding losses_answer
    answered_only losses e =
        let a = test_accepted (valid_map grid entries) 22 0 _ losses e in
        let b = test_accepted (leb (length points) room) 11 (length points) _ losses a.1 in
        let c = then_accepted (first_refusal test 0 (length points)) (λ u. accepted (point_losses grid entries points)) losses b.1 in
        (map_facts grid entries a.0, leb-true _ _ b.0, all_within (sym c.1), sym (same_value _ _ c.2))

    pub losses_decided : LossesDecided grid entries points room
    losses_decided = record {
      answered = λ rules enough w. losses_answered (map_of_lem grid entries rules) enough (sym (first_of test (length points) (λ k h. fine rules k (w k h))));
      answered_only = answered_only;
      refused_for = refused_for;
      refused_only = refused_only;
    }

  -- ---- what a call leaves

  pub leaves_refused : (before : List ℤ) (t : Told) (r : LossesRefusal) → losses_answer grid entries points (length before) ≡ refused t → told_of_point r ≡ t
      → LeavesLosses (losses_answer grid entries points (length before)) before before (Err r)
  leaves_refused before t r e same = rw e (record { outcome = ap (λ (t : Told). refused t) same; written = refl })

  pub leaves_losses : (before after : List ℤ) → losses_answer grid entries points (length before) ≡ accepted (point_losses grid entries points) → after ≡ losses_after (accepted (point_losses grid entries points)) before
      → LeavesLosses (losses_answer grid entries points (length before)) before after (Ok tt)
  leaves_losses before after e w = rw e (record { outcome = refl; written = w })

  -- each is the one of a single question
  pub each_loss : (before after : List ℤ) → valid_map grid entries ≡ true → ((i : ℕ) → i < length points → WithinMap grid (point_at points i)) → after ≡ losses_after (accepted (point_losses grid entries points)) before
      → EachLoss grid entries points after
  each_loss before after valid w e i h =
      let f = λ (k : ℕ). map_loss grid entries (point_at points k) in
      let inside : i < length (tabulate f (length points)) = rw (length_tabulate f (length points)) h in
      rw (loss_answered grid entries (point_at points i) valid (w i h), e, get_or-append (tabulate f (length points)) _ (pos 0) i inside, tabulate_at f (length points) i (pos 0) h) refl
