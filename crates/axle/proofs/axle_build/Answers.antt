-- `axle::axle_build` meets its contract. Assumes nothing.
use Rattle.layout.specs.Rules.{AreBytes}
use Rattle.axle.proofs.Building.{builds_for_c}
use Rattle.axle.proofs.axle_build.Goals as goal

pub returns : goal.returns
returns c =
    let are_bytes : AreBytes c.args.«data».now = λ i h. (c.type_inv.data i).fits in
    builds_for_c _ _ _ are_bytes _ _ c.into.ensures c.build.ensures
