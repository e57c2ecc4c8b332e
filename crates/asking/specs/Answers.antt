-- What the code that builds and then asks answers, in document 01's terms.
use Rattle.std.specs.Prelude.{ℕ, ◌≡◌, List, ℤ, length, Err, IfOk, OnOk}
use Rattle.refusal.specs.Outcome.{refuse}
use Rattle.refusal.specs.Table.{outcome_of}
use Rattle.refusal.specs.declared.Refusal.{Refusal}
use Rattle.map.specs.Answers.{Builds}
use Rattle.cell.specs.declared.Point.{Point}
use Rattle.lookup.specs.Loss.{loss_answer}
use Rattle.lookup.specs.Losses.{losses_answer, LeavesLosses, EachLoss}
use Rattle.accuracy.specs.Demand.{Accurate}
use Rattle.accuracy.specs.Losses.{LossesAccurate}
use Rattle.asking.specs.declared.Asked.{Asked}
use Rattle.asking.specs.declared.AskedLosses.{AskedLosses}

-- what `ask` promises for all data, all lent entries and every point
pub record Asks (bytes before after : List ℕ) (p : Point) (r : Asked) : Type 0 where
  -- the build's answer, and the whole content of the lent entries at exit
  pub builds : Builds bytes before after r.built
  -- the loss at the point over the map, or why there is none
  pub asked : IfOk r.built (λ grid. outcome_of r.loss ≡ loss_answer grid after p)
  -- where the build refuses there is no map to ask
  pub no_map : (x : Refusal) → r.built ≡ Err x → outcome_of r.loss ≡ refuse 22 0
  -- demand 3
  pub accurate : IfOk r.built (λ grid. Accurate bytes grid after)

-- what `ask_losses` promises for all data, all lent entries, all points and all lent losses
pub record AsksLosses (bytes before after : List ℕ) (points : List Point) (losses_before losses_after : List ℤ) (r : AskedLosses) : Type 0 where
  pub builds : Builds bytes before after r.built
  -- the losses over the map, or why there are none; and where the build refuses there is no map to ask
  pub asked : IfOk r.built (λ grid. LeavesLosses (losses_answer grid after points (length losses_before)) losses_before losses_after r.losses)
  pub no_map : (x : Refusal) → r.built ≡ Err x → LeavesLosses (refuse 22 0) losses_before losses_after r.losses
  -- each is the one of a single question
  pub single : IfOk r.built (λ grid. OnOk r.losses (EachLoss grid after points losses_after))
  -- demand 3, of the map and of each of the losses
  pub accurate : IfOk r.built (λ grid. Accurate bytes grid after)
  pub each_accurate : IfOk r.built (λ grid. OnOk r.losses (LossesAccurate bytes grid after points losses_after))
