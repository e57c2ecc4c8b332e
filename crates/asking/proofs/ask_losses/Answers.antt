-- `asking::ask_losses` meets its contract. Assumes nothing.
use Rattle.std.proofs.Common.{List, ℕ, ℤ, Result, Ok, Err}
use Rattle.std.specs.Prelude.{OnOk}
use Rattle.grid.specs.declared.Grid.{Grid}
use Rattle.layout.specs.Rules.{AreBytes}
use Rattle.cell.specs.declared.Point.{Point}
use Rattle.lookup.specs.Losses.{EachLoss}
use Rattle.lookup.specs.declared.LossesRefusal.{LossesRefusal}
use Rattle.accuracy.specs.Demand.{Accurate}
use Rattle.accuracy.specs.Losses.{LossesAccurate}
use Rattle.accuracy.proofs.Demand.{demand3}
use Rattle.accuracy.proofs.Losses.{losses_accurate}
use Rattle.asking.proofs.ask_losses.Goals as goal

-- demand 3 of each answer, where the questions are answered
each_accurate : (bytes entries : List ℕ) (grid : Grid) (points : List Point) (losses : List ℤ) (r : Result (Unit {0}) LossesRefusal) → Accurate bytes grid entries → OnOk r (EachLoss grid entries points losses)
    → OnOk r (LossesAccurate bytes grid entries points losses)
each_accurate bytes entries grid points losses (Ok u) accurate single = losses_accurate bytes grid entries accurate points losses single
each_accurate bytes entries grid points losses (Err x) accurate single = tt

pub returns-in-Ok : goal.returns-in-Ok
returns-in-Ok c =
    let are_bytes : AreBytes c.args.«data».now = λ i h. (c.type_inv.data i).fits in
    let accepted = rw c.in-Ok.is at c.build-built.ensures in
    let accurate = demand3 _ _ _ are_bytes _ accepted in
    record {
      builds = c.build-built.ensures;
      asked = rw c.in-Ok.is c.losses-losses.ensures.leaves;
      no_map = λ x refused. let never = c.in-Ok.is in cc;
      single = rw c.in-Ok.is c.losses-losses.ensures.single;
      accurate = rw c.in-Ok.is accurate;
      each_accurate = rw c.in-Ok.is (each_accurate _ _ _ _ _ c.losses-losses.result accurate c.losses-losses.ensures.single);
    }
