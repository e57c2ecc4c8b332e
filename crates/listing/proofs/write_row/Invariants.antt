-- `listing::write_row` meets its contract. Assumes nothing.
use Rattle.grid.specs.Lists.{joined}
use Rattle.buffer.specs.Written.{Appends}
use Rattle.listing.specs.Listing.{line_at}
use Rattle.listing.proofs.write_row.Given as goal

abbrev pub invariant-loop-j : goal.invariant-loop-j
invariant-loop-j l = Appends (joined (line_at l.speed l.torques l.losses 0) l.j) l.initial.text l.text
