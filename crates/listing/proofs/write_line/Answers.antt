-- `listing::write_line` meets its contract. Assumes nothing.
use Rattle.std.proofs.Common.{rules}
use Rattle.buffer.proofs.Appending.{appends_then}
use Rattle.listing.specs.Listing.{line}
use Rattle.listing.proofs.write_line.Goals as goal

pub returns : goal.returns
unfolding line
returns c = rw (← c.from.ensures, ← c.from-2.ensures) (search (rules, appends_then) depth 6)
