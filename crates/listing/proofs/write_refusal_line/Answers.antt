-- `listing::write_refusal_line` meets its contract. Assumes nothing.
use Rattle.buffer.proofs.Appending.{appends_then}
use Rattle.listing.specs.Listing.{refusal_line}
use Rattle.listing.proofs.write_refusal_line.Goals as goal

pub returns : goal.returns
unfolding refusal_line
returns c =
    let words = appends_then (appends_then c.bytes.ensures c.decimal.ensures) c.bytes-2.ensures in
    rw (c.from.ensures, c.number.ensures, c.place.ensures) at (appends_then (appends_then words c.decimal-2.ensures) c.byte.ensures)
