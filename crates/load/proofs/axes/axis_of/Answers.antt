-- `load::axes::axis_of` meets its contract. Assumes nothing.
use Rattle.std.proofs.Common.{◌∙◌, arith}
use Rattle.std.proofs.lemmas.List.{length-set}
use Rattle.load.proofs.AxesMade.{one_more, axis_is}
use Rattle.load.proofs.axes.axis_of.Goals as goal

pub loop-i-preserved : goal.loop-i-preserved
loop-i-preserved g c =
    let (long, before) = c.loop-i.invariant in
    (length-set _ _ _ ∙ long, one_more _ _ _ (omega (arith, long, c.requires.places)) before)

pub returns : goal.returns
returns g c =
    let (long, all) = c.loop-i.invariant in
    axis_is _ _ c.requires.places long (λ k l. all k (omega (arith, l)))
