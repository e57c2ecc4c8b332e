-- `lookup::check_points` meets its contract. Assumes nothing.
use Rattle.std.proofs.Common.{refl}
use Rattle.refusal.proofs.First.{refused_there, one_passed, all_passed}
use Rattle.lookup.proofs.check_points.Goals as goal

pub returns-in-Err : goal.returns-in-Err
returns-in-Err c =
    let told = rw c.in-Err.is at c.check_point.ensures in
    refused_there _ _ c.loop-i.invariant c.loop-i-test.true _ (rw (← told) refl)

pub loop-i-preserved : goal.loop-i-preserved
loop-i-preserved c =
    let told = rw c.in_default.is at c.check_point.ensures in
    one_passed _ _ c.loop-i.invariant c.loop-i-test.true (rw (← told) refl)

pub returns : goal.returns
returns c = all_passed _ _ c.loop-i.invariant c.loop-i-test.false
