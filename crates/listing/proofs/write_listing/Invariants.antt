-- `listing::write_listing` meets its contract. Assumes nothing.
use Rattle.grid.specs.Lists.{joined}
use Rattle.buffer.specs.Written.{Appends}
use Rattle.listing.specs.Listing.{row_of_speed}
use Rattle.listing.proofs.write_listing.Given as goal

abbrev pub invariant-loop-i : goal.invariant-loop-i
invariant-loop-i l =
    let grid = l.map.grid.now in
    Appends (joined (row_of_speed grid.speeds.numbers grid.torques.numbers grid.torques.count l.map.entries.now) l.i) l.initial.text l.text
