-- `fields::Cursor::sensor` meets its contract. Assumes nothing.
use Rattle.std.proofs.Common.{arith}
use Rattle.std.proofs.lemmas.Result.{err_from_is_err_and}
use Rattle.fields.proofs.Heads.{exact_body, head_refused, body_refused, body_accepted}
use Rattle.fields.proofs.Cursor.sensor.Goals as goal

pub returns-in_err-found-clause-answer : goal.returns-in_err-found-clause-answer
returns-in_err-found-clause-answer c =
    let exit = err_from_is_err_and c.from_residual.result c.from_residual.ensures.1 in
    rw (exit.1, exit.2) (head_refused _ _ _ _ _ _ c.in_err-found.ensures.answer)

pub read_sensor-requires : goal.read_sensor-requires
read_sensor-requires c =
    let l = exact_body _ _ _ _ _ c.in_ok-found.ensures.body 18 c.in_ok-found.ensures.answer in
    (l.0, omega (arith, l.1))

pub returns-in_err-value-clause-answer : goal.returns-in_err-value-clause-answer
returns-in_err-value-clause-answer c =
    let exit = err_from_is_err_and c.from_residual-in_err-value.result c.from_residual-in_err-value.ensures.1 in
    rw (exit.1, exit.2) (body_refused _ _ _ _ _ _ c.in_ok-found.ensures.answer _ (rw c.in_ok-found.ensures.body at c.in_err-value.ensures))

pub returns-clause-answer : goal.returns-clause-answer
returns-clause-answer c =
    rw c.with_value.ensures (body_accepted _ _ _ _ _ _ c.in_ok-found.ensures.answer _ (rw c.in_ok-found.ensures.body at c.in_ok-value.ensures))

pub returns-clause-due : goal.returns-clause-due
returns-clause-due c = rw c.with_value.ensures (record { tagged = c.in_ok-found.ensures.due.tagged; same_data = c.in_ok-found.ensures.due.same_data })
