-- `lent::largest` meets its contract. The invariant: each entry passed, of either half, is at most the largest so far, which is within the limit where all are, and both iterators stand where they should. Assumes nothing.
use Rattle.std.proofs.Common.{◌≡◌, ℕ, ◌<◌, ◌≤◌, get_or, length, drop, ◌+◌}
use Rattle.lent.proofs.largest.Given as goal

abbrev pub invariant-loop-first : goal.invariant-loop-first
invariant-loop-first l =
    ((k : ℕ) → k < length l.yielded → get_or l.entries k 0 ≤ l.all)
    × ((k : ℕ) → l.half ≤ k → k < l.half + length l.yielded → get_or l.entries k 0 ≤ l.all)
    × (l.first-iterator.a.rest.now ≡ drop (length l.yielded) l.initial.first-iterator.a.rest.now)
    × (l.first-iterator.b.rest.now ≡ drop (l.half + length l.yielded) l.entries)
    × (((k : ℕ) → k < length l.entries → get_or l.entries k 0 ≤ 10000000) → l.all ≤ 10000000)
