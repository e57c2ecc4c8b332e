-- `retarder::drag_on` meets its contract. Assumes nothing.
use Rattle.std.proofs.Common.{◌+◌, arith, refl}
use Rattle.retarder.proofs.Accurate.{rounded, near_line}
use Rattle.retarder.proofs.drag_on.Goals as goal

pub returns : goal.returns
returns c =
    rw (rounded c.args.readings.now c.args.bearing_losses.now c.requires.counts.0 c.args.v c.args.i c.requires.segment, c.quotient_up.ensures, c.weighted-lower.ensures.value, c.weighted-upper.ensures.value, c.point_drag.ensures.drag, c.point_drag-2.ensures.drag, c.speed_point-x.ensures, c.speed_point-y.ensures) refl

pub overflow_cast-result : goal.overflow_cast-result
overflow_cast-result c =
    let i = c.args.i in
    let line = near_line c.args.readings.now c.args.bearing_losses.now c.requires.counts.0 c.args.v i c.requires.segment in
    let lower = c.requires.drags i (omega (arith, c.requires.segment.readings_there)) in
    let upper = c.requires.drags (i + 1) c.requires.segment.readings_there in
    rw (returns c) (omega (arith, line.most, lower.1, upper.1))
