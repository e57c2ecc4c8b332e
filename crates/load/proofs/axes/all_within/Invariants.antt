-- `load::axes::all_within` meets its contract. Assumes nothing.
use Rattle.std.proofs.Common.{◌≡◌, get_or}
use Rattle.grid.specs.Axis.{within}
use Rattle.grid.specs.Every.{every}
use Rattle.load.proofs.axes.all_within.Given as goal

abbrev pub invariant-loop-n : goal.invariant-loop-n
invariant-loop-n l = l.all ≡ every (λ i. within l.range (get_or l.numbers i 0)) l.n-index
