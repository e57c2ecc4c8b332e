-- `fields::Cursor::axis_numbers` meets its contract. Assumes nothing.
use Rattle.std.proofs.Common.{arith}
use Rattle.std.proofs.lemmas.Result.{err_from_is_err_and}
use Rattle.fields.proofs.Heads.{numbers_body, head_refused, body_refused, body_accepted}
use Rattle.fields.proofs.Cursor.axis_numbers.Goals as goal

pub returns-in_err-found-clause-answer : goal.returns-in_err-found-clause-answer
returns-in_err-found-clause-answer c =
    let exit = err_from_is_err_and c.from_residual.result c.from_residual.ensures.1 in
    rw (exit.1, exit.2) (head_refused _ _ _ _ _ _ c.in_err-found.ensures.answer)

pub read_numbers-requires : goal.read_numbers-requires
read_numbers-requires c =
    let l = numbers_body _ _ _ _ _ c.in_ok-found.ensures.body 2 _ c.in_ok-found.ensures.answer in
    (l.0, omega (arith, l.2))

pub returns-in_err-read_numbers-clause-answer : goal.returns-in_err-read_numbers-clause-answer
returns-in_err-read_numbers-clause-answer c =
    let exit = err_from_is_err_and c.from_residual-in_err-read_numbers.result c.from_residual-in_err-read_numbers.ensures.1 in
    rw (exit.1, exit.2) (body_refused _ _ _ _ _ _ c.in_ok-found.ensures.answer _ (rw c.in_ok-found.ensures.body at c.in_err-read_numbers.ensures))

pub returns-clause-answer : goal.returns-clause-answer
returns-clause-answer c =
    rw c.with_value.ensures (body_accepted _ _ _ _ _ _ c.in_ok-found.ensures.answer _ (rw (← c.in_ok-found.ensures.body) c.in_ok-read_numbers.ensures))

pub returns-clause-count_within : goal.returns-clause-count_within
returns-clause-count_within c =
    let l = numbers_body _ _ _ _ _ c.in_ok-found.ensures.body 2 _ c.in_ok-found.ensures.answer in
    rw c.with_value.ensures (l.1, omega (arith, l.0))

pub returns-clause-due : goal.returns-clause-due
returns-clause-due c = rw c.with_value.ensures (record { tagged = c.in_ok-found.ensures.due.tagged; same_data = c.in_ok-found.ensures.due.same_data })
