-- `asking::ask` meets its contract. Assumes nothing.
use Rattle.layout.specs.Rules.{AreBytes}
use Rattle.accuracy.proofs.Demand.{demand3}
use Rattle.asking.proofs.ask.Goals as goal

pub returns-in-Ok : goal.returns-in-Ok
returns-in-Ok c =
    let are_bytes : AreBytes c.args.«data».now = λ i h. (c.type_inv.data i).fits in
    let accepted = rw c.in-Ok.is at c.build-built.ensures in
    record {
      builds = c.build-built.ensures;
      asked = rw c.in-Ok.is c.loss-loss.ensures;
      no_map = λ x refused. let never = c.in-Ok.is in cc;
      accurate = rw c.in-Ok.is (demand3 _ _ _ are_bytes _ accepted);
    }
