-- `timing::timing_roots` meets its contract: the roots of the numbers so far, and what is lent past them. Assumes nothing.
use Rattle.std.proofs.Common.{◌≡◌, take, drop, map}
use Rattle.arith.specs.Root.{root_up}
use Rattle.timing.proofs.timing_roots.Given as goal

abbrev pub invariant-loop-i : goal.invariant-loop-i
invariant-loop-i l = (take l.i l.roots ≡ map root_up (take l.i l.numbers)) × (drop l.i l.roots ≡ drop l.i l.initial.roots)
