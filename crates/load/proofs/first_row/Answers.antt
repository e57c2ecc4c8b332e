-- `load::first_row` meets its contract. Assumes nothing.
use Rattle.std.proofs.Common.{◌∙◌, sym, refl}
use Rattle.load.proofs.Telling.{row_first, no_row_first, open_row_first}
use Rattle.load.proofs.first_row.Goals as goal

pub returns-in_default : goal.returns-in_default
returns-in_default c = (open_row_first c.args.text.now c.requires c.in_default.ensures, refl)

pub returns-in_default-read_row : goal.returns-in_default-read_row
returns-in_default-read_row c = (no_row_first _ _ _ (c.in-Some.ensures).0 (c.in-Some.ensures).1 (rw (← c.trimmed.ensures.answer) (sym c.read_row.ensures ∙ c.in_default-read_row.is)), refl)

pub returns : goal.returns
returns c = row_first _ _ _ (c.in-Some.ensures).0 (c.in-Some.ensures).1 _ (rw (← c.trimmed.ensures.answer) (sym c.read_row.ensures ∙ c.in-Some-read_row.is))
