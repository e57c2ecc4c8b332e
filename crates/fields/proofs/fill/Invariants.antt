-- `fields::fill` meets its contract: the numbers so far, and what is lent past them. Assumes nothing.
use Rattle.std.proofs.Common.{◌≡◌, take, drop, map}
use Rattle.fields.proofs.Pairs.{pair_of}
use Rattle.fields.proofs.fill.Given as goal

abbrev pub invariant-loop-i : goal.invariant-loop-i
invariant-loop-i l = (take l.i l.numbers ≡ map pair_of (take l.i l.pairs)) × (drop l.i l.numbers ≡ drop l.i l.initial.numbers)
