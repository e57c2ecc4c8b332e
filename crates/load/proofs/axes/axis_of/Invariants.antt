-- `load::axes::axis_of` meets its contract. Assumes nothing.
use Rattle.std.proofs.Common.{ℕ, ◌≡◌, ◌<◌, length, get_or}
use Rattle.load.proofs.axes.axis_of.Given as goal

abbrev pub invariant-loop-i : goal.invariant-loop-i
invariant-loop-i g l = (length l.places ≡ g.row.N) × ((k : ℕ) → k < l.i → get_or l.places k 0 ≡ get_or l.numbers k 0)
