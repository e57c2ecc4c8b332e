-- `lent::map_valid` meets its contract. Assumes nothing.
use Rattle.std.proofs.Common.{sym, ◌∙◌}
use Rattle.grid.proofs.Map.{grid_facts}
use Rattle.grid.specs.Map.{valid_map}
use Rattle.lent.proofs.map_valid.Goals as goal

pub returns-then-grid_valid : goal.returns-then-grid_valid
unfolding valid_map
returns-then-grid_valid c =
    let valid = sym c.grid_valid.ensures ∙ c.if-grid_valid.true in
    let axes = grid_facts _ valid in
    rw (valid, ← c.points.ensures.points axes.speeds.at_most axes.torques.at_most) c.entries_valid.ensures
