-- `component::read_measured` meets its contract. Assumes nothing.
use Rattle.std.proofs.Common.{◌∙◌, arith, refl}
use Rattle.std.proofs.lemmas.Result.{err_from_is_err_and}
use Rattle.component.specs.Component.{measured_fields, rows}
use Rattle.fields.proofs.Heads.{inside, between_length, head_refused, body_accepted}
use Rattle.component.proofs.read_measured.Goals as goal

pub returns-in_err-rows-clause-answer : goal.returns-in_err-rows-clause-answer
unfolding measured_fields
returns-in_err-rows-clause-answer c =
    let exit = err_from_is_err_and c.from_residual-in_err-rows.result c.from_residual-in_err-rows.ensures.1 in
    let first = c.in_ok-input.ensures.due.same_data in
    let second = c.in_ok-outputs.ensures.same_data ∙ first in
    let outputs = rw first at c.in_ok-outputs.ensures.outcome in
    let h = rw (c.rows_tag.ensures, c.rows_length.ensures, c.number.ensures, second) at c.in_err-rows.ensures.answer in
    record {
      outcome = rw (exit.1, exit.2, ← c.in_ok-input.ensures.answer, ← outputs, ← head_refused _ _ _ _ rows _ h);
      same_data = rw exit.1 tt;
    }

pub returns-clause-answer : goal.returns-clause-answer
unfolding measured_fields
returns-clause-answer c =
    let first = c.in_ok-input.ensures.due.same_data in
    let second = c.in_ok-outputs.ensures.same_data ∙ first in
    let outputs = rw first at c.in_ok-outputs.ensures.outcome in
    let h = rw (c.rows_tag.ensures, c.rows_length.ensures, c.number.ensures, second) at c.in_ok-rows.ensures.answer in
    record {
      outcome = rw (c.in_ok-rows.ensures.body, second, ← c.in_ok-input.ensures.answer, ← outputs, ← body_accepted _ _ _ _ rows _ h _ refl);
      same_data = c.in_ok-rows.ensures.due.same_data ∙ second;
    }

pub returns-clause-rows_within : goal.returns-clause-rows_within
returns-clause-rows_within c =
    let i = inside _ _ _ _ _ c.in_ok-rows.ensures.answer in
    let second = c.in_ok-outputs.ensures.same_data ∙ c.in_ok-input.ensures.due.same_data in
    let ends = rw second at i.ends in
    rw (c.in_ok-rows.ensures.body, between_length _ _ _ i.forward i.ends) (omega (arith, i.forward, ends))
