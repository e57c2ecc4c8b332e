-- Many questions as C asks them. Assumes nothing.
use Rattle.std.proofs.Common.{ℕ, ◌≡◌, List, ℤ, length, refl, ◌∙◌, ap, arith, Result, Ok, Err}
use Rattle.std.specs.Prelude.{OnOk}
use Rattle.refusal.specs.Outcome.{Outcome, accepted, refused}
use Rattle.refusal.proofs.Numbers.{number_between}
use Rattle.grid.specs.declared.Grid.{Grid}
use Rattle.cell.specs.declared.Point.{Point}
use Rattle.lookup.specs.Losses.{losses_answer, losses_outcome, without_losses, LeavesLosses, EachLoss}
use Rattle.lookup.specs.declared.LossesRefusal.{LossesRefusal}
use Rattle.accuracy.proofs.Losses.{losses_accurate}
use Rattle.axle.specs.Interface.{losses_of}
use Rattle.axle.specs.Losses.{LossesForC}
use Rattle.axle.specs.declared.AxleLosses.{AxleLosses}

-- the answer has nothing of the losses themselves
without : (o : Outcome (List ℤ)) → losses_of (without_losses o) ≡ losses_of o
without (accepted losses) = refl
without (refused t) = refl

module _ (grid : Grid) (entries : List ℕ) (points : List Point) (before after : List ℤ) where
  pub losses_for_c : (r : Result (Unit {0}) LossesRefusal) (a : AxleLosses) → a ≡ losses_of (losses_outcome r) → LeavesLosses (losses_answer grid entries points (length before)) before after r
      → OnOk r (EachLoss grid entries points after) → LossesForC grid entries points before after a
  losses_for_c (Ok nothing) a same leaves single = record {
    answer = same ∙ ap losses_of leaves.outcome ∙ without (losses_answer grid entries points (length before));
    losses = leaves.written;
    single = λ _. single;
    accurate = λ _ bytes accurate. losses_accurate bytes grid entries accurate points after single;
  }
  losses_for_c (Err x) a same leaves single =
      let refused_one : a.refusal ≡ 0 → ⊥ = λ none. omega (arith, (number_between x.refusal).0, rw same at none) in
      record {
        answer = same ∙ ap losses_of leaves.outcome ∙ without (losses_answer grid entries points (length before));
        losses = leaves.written;
        single = λ none. absurd (refused_one none);
        accurate = λ none. absurd (refused_one none);
      }
