-- `grid::axis_valid` meets its contract. Assumes nothing.
use Rattle.std.proofs.Common.{rules, of_calls}
use Rattle.grid.proofs.Numbers.{counted_tells}
use Rattle.grid.proofs.axis_valid.Goals as goal

pub returns : goal.returns
returns g c = counted_tells _ _ _ _ c.counted.result c.counted.ensures (search (rules, of_calls))
