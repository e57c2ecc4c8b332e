-- `fields::read_numbers` meets its contract. Assumes nothing.
use Rattle.std.proofs.Common.{◌<◌, ◌/◌, arith, length, refl}
use Rattle.fields.proofs.Bodies.{axis_accepted, axis_refused, index_below}
use Rattle.fields.proofs.read_numbers.Goals as goal
use Rattle.fields.proofs.read_numbers.Goals.{After-index}

-- the index is that of one of the body's numbers
at_fault : (c : After-index) → c.index.result < length c.args.body.now / 2
at_fault c = rw c.index.ensures (index_below _ _ _ c.args.place _ c.fill.ensures _ refl _ _ c.in-Err.ensures)

pub overflow_mul-index : goal.overflow_mul-index
overflow_mul-index c = omega (arith, at_fault c)

pub overflow_add-place : goal.overflow_add-place
overflow_add-place c = omega (arith, at_fault (goal.at.overflow_add-place c).After-index)

pub returns-in-Err : goal.returns-in-Err
returns-in-Err c =
    rw (c.refusal.ensures, c.index.ensures) (axis_refused _ _ _ _ _ c.fill.ensures _ refl _ _ c.in-Err.ensures)

pub returns-in-Ok : goal.returns-in-Ok
returns-in-Ok c = axis_accepted _ _ _ _ _ c.fill.ensures _ refl c.in-Ok.ensures
