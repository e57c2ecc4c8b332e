-- `lent::entries_valid` meets its contract. Assumes nothing.
use Rattle.std.proofs.Common.{length, arith}
use borrow.Author.Tests.{le-leb, lt-leb, leb-true}
use Rattle.grid.specs.Map.{valid_entries}
use Rattle.lent.proofs.Bound.{valid_tells}
use Rattle.lent.proofs.entries_valid.Goals as goal

pub returns-in_default : goal.returns-in_default
unfolding valid_entries
returns-in_default c = rw (lt-leb c.args.count (length c.args.entries.now) (grind (arith, c.in_default.ensures.lookup)))

pub returns : goal.returns
returns c =
    let s = c.in-Some.ensures.lookup.0 in
    valid_tells _ c.in-Some.entries.now _ s.1 s.2 _ (λ v k l. omega (arith, c.largest.ensures.at_least k l, leb-true _ _ v), λ p. le-leb _ _ (c.largest.ensures.within p))
