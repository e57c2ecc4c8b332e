-- `listing::write_listing` meets its contract. Assumes nothing.
use Rattle.std.proofs.Common.{◌≡◌, ◌<◌, arith}
use Rattle.buffer.proofs.Appending.{appends_then, appends_next, room_next}
use Rattle.listing.specs.Listing.{header, rows, listing}
use Rattle.listing.proofs.Lengths.{length_listing}
use Rattle.listing.proofs.Parts.{row_of_parts}
use Rattle.listing.proofs.write_listing.Goals as goal

pub write_row-requires-clause-room : goal.write_row-requires-clause-room
unfolding rows
write_row-requires-clause-room c =
    let map = c.args.map.now in
    let l : c.loop-i.i < map.grid.now.speeds.count = omega arith in
    let long = rw c.torques-torques.ensures.numbers at c.torques-torques.ensures.long in
    rw (c.speeds-speed-items.ensures.numbers, c.torques-torques.ensures.numbers, row_of_parts _ _ _ _ _ _ l long)
    (room_next _ _ c.loop-i.invariant map.grid.now.speeds.count l (omega (arith, length_listing map.grid.now map.entries.now, c.requires)))

pub loop-i-preserved : goal.loop-i-preserved
loop-i-preserved c =
    let l : c.loop-i.i < c.args.map.now.grid.now.speeds.count = omega arith in
    let long = rw c.torques-torques.ensures.numbers at c.torques-torques.ensures.long in
    appends_next _ _ c.loop-i.invariant (rw (c.speeds-speed-items.ensures.numbers, c.torques-torques.ensures.numbers, row_of_parts _ _ _ _ _ _ l long) at c.write_row.ensures)

pub returns : goal.returns
unfolding header listing rows
returns c =
    let done : c.loop-i.i ≡ c.args.map.now.grid.now.speeds.count = omega arith in
    let first = appends_then (rw c.header.ensures at c.bytes.ensures) c.bytes-2.ensures in
    rw (← done) (appends_then first c.loop-i.invariant)
