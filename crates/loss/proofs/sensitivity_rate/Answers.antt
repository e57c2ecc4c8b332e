-- `loss::sensitivity_rate` meets its contract. Assumes nothing.
use Rattle.std.proofs.Common.{◌≡◌, ◌*◌, ◌∙◌, arith}
use Rattle.arith.proofs.Quotients.{quotient_in_steps}
use Rattle.loss.specs.Rate.{sensitivity_rate}
use Rattle.loss.proofs.sensitivity_rate.Goals as goal

pub returns : goal.returns
unfolding sensitivity_rate
returns c =
    let s = c.args.sensor in
    let n = 8388608 * c.product-n.result in
    let d = 100000 * c.from-d.result in
    let whole : n * 8388608 ≡ s.sensitivity * s.difference * 70368744177664 = omega (arith, c.product-n.ensures) in
    let divisor : d ≡ 100000 * s.span = omega (arith, c.from-d.ensures) in
    quotient_in_steps n d 8388608 (omega (arith, divisor, c.requires.span.0)) ∙ rw (whole, divisor)
