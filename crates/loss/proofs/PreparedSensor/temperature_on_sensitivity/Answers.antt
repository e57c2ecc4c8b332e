-- `loss::PreparedSensor::temperature_on_sensitivity` meets its contract: the part of a sensor in its ranges is small. Assumes nothing.
use Rattle.std.proofs.Common.{◌*◌, ◌<◌, arith, mul-le-mul}
use Rattle.arith.proofs.Quotients.{quotient_by_rate}
use Rattle.loss.specs.Measured.{grains_up, temperature_on_sensitivity}
use Rattle.loss.specs.Rate.{sensitivity_rate}
use Rattle.loss.proofs.Parts.{sensitivity_at_most}
use Rattle.loss.proofs.PreparedSensor.temperature_on_sensitivity.Goals as goal

pub returns-clause-part : goal.returns-clause-part
unfolding grains_up temperature_on_sensitivity sensitivity_rate
returns-clause-part c =
    let s = c.args.self.now.sensor in
    let rules = c.args.self.now.rules in
    let small : c.args.torque * (100000 * s.span) < 70368744177664 = omega (arith, c.requires, rules.nominal.1, mul-le-mul c.requires rules.span.1, rules.span.1) in
    rw (c.from.ensures, c.from-2.ensures, c.from-3.ensures, c.from-4.ensures)
    (quotient_by_rate (s.sensitivity * s.difference) c.args.torque (100000 * s.span) 70368744177664 c.args.self.now.rate (omega (arith, rules.span.0)) c.args.self.now.own_rate small)

pub returns-clause-bound : goal.returns-clause-bound
returns-clause-bound c =
    rw (returns-clause-part c) (sensitivity_at_most c.args.self.now.rules (omega (arith, c.requires, c.args.self.now.rules.nominal.1)))
