-- `grid::numbers_valid` meets its contract. The invariant: the flag tells of each number passed. Assumes nothing.
use Rattle.std.proofs.Common.{◌≡◌, ◌∙◌, arith, length}
use Rattle.grid.proofs.Every.{flag_first, flag_more, flag_done}
use Rattle.grid.proofs.Numbers.{right_first}
use Rattle.grid.proofs.numbers_valid.Goals as goal

pub loop-i-init : goal.loop-i-init
loop-i-init c = flag_first _ _ (c.contains-valid.ensures ∙ right_first _ c.args.numbers.now)

pub loop-i-preserved : goal.loop-i-preserved
loop-i-preserved c = flag_more _ _ _ _ c.loop-i.invariant c.later_valid-valid.ensures

pub returns : goal.returns
returns c =
    let e : c.loop-i.i ≡ length c.args.numbers.now = omega arith in
    flag_done _ _ _ _ c.loop-i.invariant e
