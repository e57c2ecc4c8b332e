-- `listing::listing_length` meets its contract. Assumes nothing.
use Rattle.std.proofs.Common.{◌≡◌, ◌+◌, ◌*◌, ◌≤◌, length}
use Rattle.grid.specs.Lists.{joined}
use Rattle.listing.specs.Listing.{row_of_speed}
use Rattle.listing.proofs.listing_length.Given as goal

abbrev pub invariant-loop-i : goal.invariant-loop-i
invariant-loop-i l =
    let grid = l.map.grid.now in
    (l.total ≤ 18 + 4224 * l.i)
    × (l.total ≡ 18 + length (joined (row_of_speed grid.speeds.numbers grid.torques.numbers grid.torques.count l.map.entries.now) l.i))
