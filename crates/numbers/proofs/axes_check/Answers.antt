-- `numbers::axes_check` meets its contract. Assumes nothing.
use Rattle.std.proofs.Common.{sym, ◌∙◌}
use Rattle.fields.proofs.Bodies.{first_step_lem}
use Rattle.numbers.proofs.Checks.{count_within}
use Rattle.numbers.specs.Check.{axes_check}
use Rattle.numbers.proofs.axes_check.Goals as goal

pub returns-then-not-first_step_holds : goal.returns-then-not-first_step_holds
unfolding axes_check
returns-then-not-first_step_holds c =
    let counted = count_within _ _ _ _ (sym c.in_ok-axis_check-2.ensures) in
    rw (← c.in_ok-axis_check.ensures, ← c.in_ok-axis_check-2.ensures, first_step_lem _ _ _ counted.0 (sym c.first_step_holds.ensures ∙ c.if-not-first_step_holds.true))

pub returns : goal.returns
unfolding axes_check
returns c =
    let counted = count_within _ _ _ _ (sym c.in_ok-axis_check-2.ensures) in
    rw (← c.in_ok-axis_check.ensures, ← c.in_ok-axis_check-2.ensures, first_step_lem _ _ _ counted.0 (sym c.first_step_holds.ensures ∙ c.if-not-first_step_holds.false))
