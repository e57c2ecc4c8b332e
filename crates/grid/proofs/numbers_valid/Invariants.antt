-- `grid::numbers_valid` meets its contract. The invariant: the flag tells of each number passed. Assumes nothing.
use Rattle.std.proofs.Common.{◌≡◌}
use Rattle.grid.specs.Every.{every}
use Rattle.grid.proofs.Numbers.{right_at}
use Rattle.grid.proofs.numbers_valid.Given as goal

abbrev pub invariant-loop-i : goal.invariant-loop-i
invariant-loop-i l = l.valid ≡ every (right_at l.range l.numbers) l.i
