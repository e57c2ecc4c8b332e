-- `load::read_rows` meets its contract. Assumes nothing.
use Rattle.std.proofs.Common.{sym, ◌∙◌, eqb-true, rules}
use Rattle.std.proofs.lemmas.Result.{err_from_is_err_and}
use Rattle.load.proofs.Reading.{reading_none, few_rows, wrong, broken, reading_next, all_read}
use Rattle.load.proofs.read_rows.Goals as goal

pub loop-rest-init : goal.loop-rest-init
loop-rest-init c = reading_none _ _ _ _ c.default-runs.ensures (c.in_ok-body.ensures).0 (c.in_ok-body.ensures).1

pub returns-in_err-row : goal.returns-in_err-row
returns-in_err-row c =
    let p = err_from_is_err_and c.from_residual-in_err-row.result c.from_residual-in_err-row.ensures.1 in
    rw (p.1, p.2, (c.in_err-row.ensures).1) (wrong _ _ _ _ _ c.loop-rest.invariant (c.in_err-row.ensures).0)

pub add-requires : goal.add-requires
add-requires c = few_rows _ _ _ _ _ c.loop-rest.invariant (search rules) (search rules)

pub returns-in_default : goal.returns-in_default
returns-in_default c =
    let r = c.loop-rest.invariant in
    broken _ _ _ _ _ r _ _ c.in_ok-row.ensures (c.in_default.ensures r.ls r.rows r.counted r.say r.run_before)

pub loop-rest-preserved : goal.loop-rest-preserved
loop-rest-preserved c =
    let r = c.loop-rest.invariant in
    let taken = c.in-Some.ensures r.ls r.rows r.counted r.say r.run_before in
    let next = reading_next _ _ _ _ _ r _ _ c.in_ok-row.ensures _ _ taken.0 taken.1 taken.2 in
    rw (c.keep.ensures, c.kept_loss.ensures, r.counted.count) next

pub returns : goal.returns
returns c = all_read _ _ _ _ _ c.loop-rest.invariant (eqb-true _ _ (sym c.is_empty.ensures ∙ c.loop-rest-test.false))
