-- `retarder::drags_fit` meets its contract. The invariant: the drags of the readings passed fit. Assumes nothing.
use Rattle.std.proofs.Common.{◌≡◌, true, get_or}
use Rattle.grid.specs.Every.{every}
use Rattle.retarder.specs.Drag.{drag_fits}
use Rattle.retarder.proofs.drags_fit.Given as goal

abbrev pub invariant-loop-i : goal.invariant-loop-i
invariant-loop-i l = every (λ i. drag_fits (get_or l.readings i 0) (get_or l.bearing_losses i 0)) l.i ≡ true
