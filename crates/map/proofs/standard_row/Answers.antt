-- `map::standard_row` meets its contract. Assumes nothing.
use Rattle.std.proofs.Common.{refl}
use Rattle.grid.proofs.Filling.{none_filled, one_filled}
use Rattle.map.specs.Answers.{standard_at}
use Rattle.map.proofs.standard_row.Goals as goal

pub loop-i-init : goal.loop-i-init
loop-i-init c = none_filled _ _ _ _

pub loop-i-preserved : goal.loop-i-preserved
unfolding standard_at
loop-i-preserved c = one_filled _ _ _ _ _ _ c.loop-i.invariant c.loop-i-test.true c.requires refl _ c.standard_entry.ensures.entry
