-- `lookup::loss_within` meets its contract. Assumes nothing.
use Rattle.std.proofs.Common.{arith}
use Rattle.std.proofs.lemmas.Int.{ints, to_z-of_z}
use Rattle.lookup.specs.Loss.{cell_of}
use Rattle.lookup.proofs.Cells.{cell_there, cell_bounds, loss_of_cell}
use Rattle.lookup.proofs.loss_within.Goals as goal

pub cell_numbers-cell-requires : goal.cell_numbers-cell-requires
unfolding cell_of
cell_numbers-cell-requires c =
    let speeds = c.scaled_axes.ensures.speeds in
    let torques = c.scaled_axes.ensures.torques in
    rw (c.neighbour-i.ensures, c.neighbour-j.ensures, speeds.0, speeds.1, torques.0, torques.1, c.from.ensures, c.from-2.ensures)
    (cell_there _ _ _ c.args.map.now.tested c.requires)

pub interpolate-requires : goal.interpolate-requires
unfolding cell_of
interpolate-requires c =
    let speeds = c.scaled_axes.ensures.speeds in
    let torques = c.scaled_axes.ensures.torques in
    rw (c.cell_numbers-cell.ensures, c.neighbour-i.ensures, c.neighbour-j.ensures, speeds.0, speeds.1, torques.0, torques.1, c.from.ensures, c.from-2.ensures)
    (cell_bounds _ _ _ c.args.map.now.tested c.requires)

pub returns : goal.returns
unfolding cell_of
returns c = grind (arith, ints, to_z-of_z, loss_of_cell _ _ _ c.args.map.now.tested c.requires)
