-- The drag of a retarder as C has it. Assumes nothing.
use Rattle.std.proofs.Common.{ℕ, ◌≡◌, List, arith, Result, Ok, Err, IfOk}
use Rattle.refusal.specs.Table.{outcome_of}
use Rattle.refusal.proofs.Numbers.{number_between}
use Rattle.refusal.specs.declared.Refusal.{Refusal}
use Rattle.retarder.specs.Drag.{retarder_speed, drag_answer}
use Rattle.retarder.specs.Laws.{DragAccurate}
use Rattle.retarder.proofs.Accurate.{drag_unique}
use Rattle.axle.specs.Interface.{drag_of}
use Rattle.axle.specs.Drag.{DragForC}
use Rattle.axle.specs.declared.AxleDrag.{AxleDrag}

module _ (readings bearing_losses : List ℕ) (ratio speed : ℕ) where
  pub drag_for_c : (r : Result ℕ Refusal) (a : AxleDrag) → a ≡ drag_of (outcome_of r) → outcome_of r ≡ drag_answer readings bearing_losses ratio speed
      → IfOk r (DragAccurate readings bearing_losses (retarder_speed ratio speed)) → DragForC readings bearing_losses ratio speed a
  drag_for_c (Ok drag) a same answer accurate = record { answer = rw (← answer) same; accurate = λ _. rw same accurate }
  drag_for_c (Err x) a same answer accurate = record {
    answer = rw (← answer) same;
    accurate = λ none. absurd (omega (arith, (number_between x).0, rw same at none));
  }

-- the promise that it is near the exact line leaves one drag, whatever else is promised
pub drag_unique_for_c : {readings bearing_losses : List ℕ} {ratio speed : ℕ} {a b : AxleDrag} → DragForC readings bearing_losses ratio speed a → DragForC readings bearing_losses ratio speed b
    → a.refusal ≡ 0 → b.refusal ≡ 0 → a.drag ≡ b.drag
drag_unique_for_c p q a_is b_is = drag_unique (p.accurate a_is) (q.accurate b_is)
