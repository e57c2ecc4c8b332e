-- `axle::axle_losses` meets its contract. Assumes nothing.
use Rattle.axle.proofs.Losses.{losses_for_c}
use Rattle.axle.proofs.axle_losses.Goals as goal

pub returns : goal.returns
returns c = rw (← c.grid_of-grid.ensures) (losses_for_c _ _ _ _ _ _ _ c.into.ensures c.losses.ensures.leaves c.losses.ensures.single)
