-- `load::runs::Runs::torque_due` meets its contract. Assumes nothing.
use Rattle.std.proofs.Common.{arith, inr, eqb-true, sym, ◌∙◌}
use Rattle.load.proofs.TorqueDue.{read_torque, row_is_there, text_is_there}
use Rattle.load.proofs.runs.Runs.torque_due.Goals as goal

pub returns-in-Some : goal.returns-in-Some
returns-in-Some c = λ ls rows k say some before.
    let (torque, few) = c.in-Some.ensures rows k some in
    (torque, λ many. absurd (omega (arith, many, few)))

pub returns-then-is_empty : goal.returns-then-is_empty
returns-then-is_empty c = λ ls rows k say some before.
    let many = c.in_default.ensures rows k some in
    absurd (text_is_there ls rows _ say some (omega arith) (before (inr many)) (eqb-true _ _ (sym c.is_empty.ensures ∙ c.if-is_empty.true)))

pub returns-in-Ok : goal.returns-in-Ok
returns-in-Ok c = λ ls rows k say some before.
    let many = c.in_default.ensures rows k some in
    let (torque, later) = read_torque ls rows _ say some (omega arith) (before (inr many)) k.regular _ _ c.in-Ok.ensures in
    (torque, λ _. later)

pub returns-in-Err : goal.returns-in-Err
returns-in-Err c = λ ls rows k say some before.
    let many = c.in_default.ensures rows k some in
    absurd (row_is_there ls rows _ say some (omega arith) (before (inr many)) (c.in-Err.ensures).0)
