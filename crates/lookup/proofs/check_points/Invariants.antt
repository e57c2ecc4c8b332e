-- `lookup::check_points` meets its contract. The invariant: the points passed are within the limits. Assumes nothing.
use Rattle.std.proofs.Common.{length}
use Rattle.refusal.proofs.First.{Passed}
use Rattle.lookup.specs.Losses.{point_check}
use Rattle.lookup.proofs.check_points.Given as goal

abbrev pub invariant-loop-i : goal.invariant-loop-i
invariant-loop-i l =
    Passed (point_check l.map.grid.now l.map.entries.now l.points) (length l.points) l.i
