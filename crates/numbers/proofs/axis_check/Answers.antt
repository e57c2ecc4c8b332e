-- `numbers::axis_check` meets its contract. Assumes nothing.
use Rattle.std.proofs.Common.{sym, ◌∙◌, rules}
use Rattle.numbers.proofs.Checks.{not_counted, fault_told}
use Rattle.numbers.proofs.axis_check.Goals as goal

pub returns-in_default : goal.returns-in_default
returns-in_default g c = sym (not_counted _ _ _ _ c.in_default.ensures)

pub returns : goal.returns
returns g c =
    (search rules) ∙ sym (fault_told _ _ _ _ _ c.in-Some.ensures _ c.check_axis.ensures)
