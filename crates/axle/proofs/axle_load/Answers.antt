-- `axle::axle_load` meets its contract. Assumes nothing.
use Rattle.axle.proofs.Building.{loads_for_c}
use Rattle.axle.proofs.axle_load.Goals as goal

pub returns : goal.returns
returns c = loads_for_c _ _ _ _ _ c.into.ensures c.load.ensures
