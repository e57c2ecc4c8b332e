-- `lent::largest` meets its contract. Assumes nothing.
use Rattle.std.proofs.Common.{◌≡◌, ◌∙◌, ◌+◌, ◌/◌, sym, arith, length, get_or}
use Rattle.std.proofs.lemmas.Grind.{common_steps}
use Rattle.std.proofs.lemmas.List.{length_push}
use Rattle.std.proofs.Math.Nat.{add_assoc}
use Rattle.lent.proofs.Bound.{first_of_rest}
use Rattle.lent.proofs.largest.Goals as goal

pub loop-first-preserved : goal.loop-first-preserved
loop-first-preserved c =
    let s = c.in-Some.ensures.steps in
    let i = length c.loop-first.yielded in
    let p = first_of_rest _ _ i _ (sym c.loop-first.invariant.2 ∙ s.0) in
    let n = first_of_rest c.args.entries.now _ (length c.args.entries.now / 2 + i) _ (sym c.loop-first.invariant.3 ∙ s.1) in
    let first : c.in-Some.first.now ≡ get_or c.args.entries.now i 0 = grind (arith, common_steps) in
    let second : c.in-Some.second.now ≡ get_or c.args.entries.now (length c.args.entries.now / 2 + i) 0 = grind (arith, common_steps) in
    rw length_push (
      λ k l. grind (arith, first, c.loop-first.invariant.0 k),
      λ k h l. grind (arith, second, c.loop-first.invariant.1 k h),
      p.2,
      rw (← add_assoc (length c.args.entries.now / 2) i 1) n.2,
      λ all. grind (arith, first, second, c.loop-first.invariant.4 all, all i, all (length c.args.entries.now / 2 + i), p.0, n.0),
    )
