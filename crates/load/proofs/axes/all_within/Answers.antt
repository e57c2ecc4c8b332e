-- `load::axes::all_within` meets its contract. Assumes nothing.
use Rattle.std.proofs.Common.{refl}
use Rattle.grid.specs.Every.{every}
use Rattle.grid.proofs.Every.{flag_more}
use Rattle.load.proofs.axes.all_within.Goals as goal

pub loop-n-init : goal.loop-n-init
unfolding every
loop-n-init c = refl

pub loop-n-preserved : goal.loop-n-preserved
loop-n-preserved c = flag_more _ _ _ _ c.loop-n.invariant c.within-all.ensures
