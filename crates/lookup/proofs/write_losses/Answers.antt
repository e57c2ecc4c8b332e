-- `lookup::write_losses` meets its contract. Assumes nothing.
use Rattle.std.proofs.Common.{refl, arith}
use Rattle.std.proofs.lemmas.Int.{ints, to_z-of_z}
use Rattle.grid.proofs.Filling.{none_filled, one_filled}
use Rattle.lookup.proofs.write_losses.Goals as goal

pub loop-i-init : goal.loop-i-init
loop-i-init c = none_filled _ _ _ _

pub loop-i-preserved : goal.loop-i-preserved
loop-i-preserved c = one_filled _ _ _ _ _ _ c.loop-i.invariant c.loop-i-test.true c.requires.room refl _ (grind (arith, ints, to_z-of_z, c.loss_within.ensures))
