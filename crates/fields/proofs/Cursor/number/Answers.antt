-- `fields::Cursor::number` meets its contract. Assumes nothing.
use Rattle.std.proofs.Common.{arith}
use Rattle.std.proofs.lemmas.Result.{err_from_is_err_and}
use Rattle.std.proofs.Common.{sym, ◌∙◌}
use Rattle.fields.proofs.Heads.{exact_body, head_refused, body_refused, body_accepted}
use Rattle.fields.proofs.Bodies.{number_accepted, number_refused}
use Rattle.grid.proofs.AxisLaws.{in_range}
use Rattle.fields.proofs.Cursor.number.Goals as goal

pub returns-in_err-found-clause-answer : goal.returns-in_err-found-clause-answer
returns-in_err-found-clause-answer c =
    let exit = err_from_is_err_and c.from_residual.result c.from_residual.ensures.1 in
    rw (exit.1, exit.2) (head_refused _ _ _ _ _ _ (rw c.bytes.ensures.answer at c.in_err-found.ensures.answer))

pub number_of-value-requires : goal.number_of-value-requires
number_of-value-requires c =
    let l = exact_body _ _ _ _ _ c.in_ok-found.ensures.body _ c.in_ok-found.ensures.answer in
    omega (arith, l.0, c.bytes.ensures.one_or_two)

pub returns-then-not-contains-clause-answer : goal.returns-then-not-contains-clause-answer
returns-then-not-contains-clause-answer c =
    rw c.refusal.ensures
    (body_refused _ _ _ _ _ _ (rw c.bytes.ensures.answer at c.in_ok-found.ensures.answer) _
    (number_refused _ _ _ _ _ _ (rw c.in_ok-found.ensures.body at c.number_of-value.ensures) c.contains.ensures c.if-not-contains.true))

pub returns-clause-answer : goal.returns-clause-answer
returns-clause-answer c =
    rw c.with_value.ensures
    (body_accepted _ _ _ _ _ _ (rw c.bytes.ensures.answer at c.in_ok-found.ensures.answer) _
    (number_accepted _ _ _ _ _ _ (rw c.in_ok-found.ensures.body at c.number_of-value.ensures) c.contains.ensures c.if-not-contains.false))

pub returns-clause-in_range : goal.returns-clause-in_range
returns-clause-in_range c = rw c.with_value.ensures (in_range _ _ (sym c.contains.ensures ∙ c.if-not-contains.false))

pub returns-clause-due : goal.returns-clause-due
returns-clause-due c = rw c.with_value.ensures (record { tagged = c.in_ok-found.ensures.due.tagged; same_data = c.in_ok-found.ensures.due.same_data })
