-- `listing::write_row` meets its contract. Assumes nothing.
use Rattle.std.proofs.Common.{arith, length, zero-add}
use Rattle.buffer.proofs.Appending.{appends_next, room_next}
use Rattle.listing.specs.Listing.{row}
use Rattle.listing.proofs.write_row.Goals as goal

pub write_line-requires : goal.write_line-requires
unfolding row
write_line-requires c =
    rw zero-add at (room_next _ _ c.loop-j.invariant (length c.args.torques.now) (omega arith) c.requires.room)

pub loop-j-preserved : goal.loop-j-preserved
loop-j-preserved c = appends_next _ _ c.loop-j.invariant (rw zero-add c.write_line.ensures)
