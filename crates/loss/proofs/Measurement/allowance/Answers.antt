-- `loss::Measurement::allowance` meets its contract. Assumes nothing.
use Rattle.loss.proofs.OneDenominator.{is_same}
use Rattle.loss.proofs.Values.{allowance_is}
use Rattle.loss.proofs.Measurement.allowance.Goals as goal

pub returns-clause-allowance : goal.returns-clause-allowance
returns-clause-allowance c =
    rw (c.max.ensures, c.saturating_sub-twentieth.ensures, c.at_ratio.ensures.product, c.from-twentieth_spent.ensures, c.from-newton_metre.ensures) (is_same (allowance_is c.args.self.ratio c.args.self.input c.args.self.output))
