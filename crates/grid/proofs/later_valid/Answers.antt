-- `grid::later_valid` meets its contract. Assumes nothing.
use Rattle.std.proofs.Common.{arith}
use borrow.Author.Tests.{ne_eqb}
use Rattle.grid.specs.Axis.{rises}
use Rattle.grid.proofs.later_valid.Goals as goal

pub returns : goal.returns
unfolding rises
returns c = rw (ne_eqb c.args.i 0 (λ e. omega arith), ← c.contains.ensures)
