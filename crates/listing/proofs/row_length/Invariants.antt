-- `listing::row_length` meets its contract. Assumes nothing.
use Rattle.std.proofs.Common.{◌≡◌, ◌*◌, ◌≤◌, length}
use Rattle.grid.specs.Lists.{joined}
use Rattle.listing.specs.Listing.{line_at}
use Rattle.listing.proofs.row_length.Given as goal

abbrev pub invariant-loop-torque : goal.invariant-loop-torque
invariant-loop-torque l =
    (l.total ≤ 66 * length l.yielded) × (l.total ≡ length (joined (line_at l.speed l.torques l.losses 0) (length l.yielded)))
