-- `lookup::lower_neighbour` meets its contract. The invariant: the first so many numbers passed are at or below, and the others above. Assumes nothing.
use Rattle.std.proofs.Common.{ℕ, ◌<◌, ◌≤◌, get_or}
use Rattle.lookup.proofs.lower_neighbour.Given as goal

abbrev pub invariant-loop-i : goal.invariant-loop-i
invariant-loop-i l =
    (l.below < l.i)
    × ((k : ℕ) → 0 < k → k ≤ l.below → get_or l.numbers k 0 ≤ l.most)
    × ((k : ℕ) → l.below < k → k < l.i → l.most < get_or l.numbers k 0)
