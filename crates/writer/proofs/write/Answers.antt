-- `writer::write` meets its contract. Assumes nothing.
use Rattle.std.proofs.Common.{rules, refl}
use Rattle.std.proofs.lemmas.Result.{err_from_is_err_and}
use Rattle.layout.specs.Rules.{FitFourBytes}
use Rattle.buffer.proofs.Appending.{appended_alone}
use Rattle.writer.proofs.Writing.{numbers_refused, all_written}
use Rattle.writer.proofs.write.Goals as goal

pub returns-in_err-check : goal.returns-in_err-check
returns-in_err-check c =
    let exit = err_from_is_err_and c.from_residual.result c.from_residual.ensures.1 in
    rw (exit.1, exit.2) (numbers_refused _ _ _ _ c.in_err-check.ensures)

pub returns : goal.returns
returns c =
    let fit : FitFourBytes c.args.rows.now = λ i h. (c.type_inv.rows i).fits in
    let tested = c.write_accepted.ensures in
    all_written _ _ _ _ _ fit c.in_ok-check.ensures _ (search (rules, appended_alone c.encode.ensures refl)) tested.answer tested.file_after
