-- A question to a map is answered exactly when no refusal applies: the statement of specs/Acceptance. Assumes nothing.
use Prim.Native.Nat.{ℕ, ◌<◌}
use mathlib.Core.Path.{◌≡◌, sym}
use mathlib.Core.Bool.{Bool, false, ◌&&◌}
use mathlib.Core.List.{List}
use mathlib.Core.Logic.{◌⊎◌, inl, inr, ⊎_elim}
use borrow.Author.Tests.{leb-true, leb-false}
use lib.Dec.{leb}
use Rattle.std.proofs.lemmas.Bool.{both_ways}
use Rattle.refusal.specs.Outcome.{Told, accepted, refused}
use Rattle.refusal.proofs.Steps.{never, same_value, test_accepted, test_refused}
use Rattle.grid.specs.Map.{valid_grid, valid_map}
use Rattle.grid.specs.declared.Grid.{Grid}
use Rattle.grid.proofs.Every.{and_fst, and_snd, and_not}
use Rattle.grid.proofs.Map.{grid_facts, grid_of_lem, grid_not, map_facts, map_of_lem, map_not}
use Rattle.cell.specs.declared.Point.{Point}
use Rattle.lookup.specs.Loss.{loss_answer}
use Rattle.lookup.specs.Nearest.{nearest_point, nearest_answer}
use Rattle.lookup.specs.Acceptance.{lowest_speed, highest_speed, highest_torque, QueryFault, not_a_map, speed_outside, torque_above, LossDecided, NearestDecided, QueriesDecided}
use Rattle.lookup.proofs.Queries.{map_refused, speed_refused, torque_refused, loss_answered, answered_within}

module _ (grid : Grid) (entries : List ℕ) (p : Point) where
  abbrev low : Bool
  low = leb (lowest_speed grid) p.speed

  abbrev high : Bool
  high = leb p.speed (highest_speed grid)

  abbrev top : Bool
  top = leb p.torque (highest_torque grid)

  outside : (low && high) ≡ false → (p.speed < lowest_speed grid) ⊎ (highest_speed grid < p.speed)
  outside e = ⊎_elim (λ h. inl (leb-false _ _ h)) (λ h. inr (leb-false _ _ h)) (and_not low high e)

  loss_refused_for : (told : Told) → QueryFault grid entries p told → loss_answer grid entries p ≡ refused told
  loss_refused_for told (not_a_map broken e) = rw e (map_refused grid entries p (map_not grid entries broken))
  loss_refused_for told (speed_outside rules h e) = rw e (speed_refused grid entries p (map_of_lem grid entries rules) h)
  loss_refused_for told (torque_above rules h k l e) = rw e (torque_refused grid entries p (map_of_lem grid entries rules) h k l)

  loss_refused_only : (told : Told) → loss_answer grid entries p ≡ refused told → QueryFault grid entries p told
  unfolding loss_answer
  loss_refused_only told e =
      ⊎_elim
      (λ a. not_a_map (λ rules. both_ways _ a.0 (map_of_lem grid entries rules)) a.1)
      (λ a.
      let rules = map_facts grid entries a.0 in
      ⊎_elim
      (λ b. speed_outside rules (outside b.0) b.1)
      (λ b.
      ⊎_elim
      (λ c. torque_above rules (leb-true _ _ (and_fst low high b.0)) (leb-true _ _ (and_snd low high b.0)) (leb-false _ _ c.0) c.1)
      (λ c. never told _ (sym c.1))
      (test_refused top 21 0 _ told b.1))
      (test_refused (low && high) 20 0 _ told a.1))
      (test_refused (valid_map grid entries) 22 0 _ told e)

  loss_decided : LossDecided grid entries p
  loss_decided = record {
    answered = λ rules w. loss_answered grid entries p (map_of_lem grid entries rules) w;
    answered_only = λ z e. let a = answered_within grid entries p z e in (map_facts grid entries a.0, a.1, a.2);
    refused_for = loss_refused_for;
    refused_only = loss_refused_only;
  }

module _ (grid : Grid) (p : Point) where
  nearest_decided : NearestDecided grid p
  unfolding nearest_answer
  nearest_decided = record {
    answered = λ rules. rw (grid_of_lem grid rules);
    answered_only = λ q e.
        let a = test_accepted (valid_grid grid) 22 0 (accepted (nearest_point grid p)) q e in
        (grid_facts grid a.0, sym (same_value _ q a.1));
    refused_for = λ broken. rw (grid_not grid broken);
    refused_only = λ told e.
        ⊎_elim (λ a. (λ rules. both_ways _ a.0 (grid_of_lem grid rules), a.1)) (λ a. never told _ (sym a.1)) (test_refused (valid_grid grid) 22 0 (accepted (nearest_point grid p)) told e);
  }

pub queries_decided : QueriesDecided
queries_decided = record { loss = loss_decided; nearest = nearest_decided }
