-- `lookup::write_losses` meets its contract. The invariant: the losses of the points passed are written. Assumes nothing.
use Rattle.std.proofs.Common.{length}
use Rattle.refusal.specs.Outcome.{accepted}
use Rattle.grid.proofs.Filling.{Filling}
use Rattle.lookup.specs.Loss.{map_loss}
use Rattle.lookup.specs.Losses.{point_at}
use Rattle.lookup.proofs.write_losses.Given as goal

abbrev pub invariant-loop-i : goal.invariant-loop-i
invariant-loop-i l =
    Filling (λ j. accepted tt) (λ i. map_loss l.map.grid.now l.map.entries.now (point_at l.points i)) (length l.points) l.initial.losses l.losses l.i
