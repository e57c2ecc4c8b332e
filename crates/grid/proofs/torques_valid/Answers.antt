-- `grid::torques_valid` meets its contract. Assumes nothing.
use Rattle.std.proofs.Common.{sym, ◌∙◌}
use Rattle.grid.specs.Axis.{first_step}
use Rattle.grid.specs.Map.{valid_torques}
use Rattle.grid.proofs.torques_valid.Goals as goal

pub returns-then-axis_valid : goal.returns-then-axis_valid
unfolding valid_torques first_step
returns-then-axis_valid c = rw (sym c.axis_valid.ensures ∙ c.if-axis_valid.true) c.first_step_holds.ensures

pub returns-else-axis_valid : goal.returns-else-axis_valid
unfolding valid_torques
returns-else-axis_valid c = let e = sym c.axis_valid.ensures ∙ c.if-axis_valid.false in rw (e, c.if-axis_valid.false)
