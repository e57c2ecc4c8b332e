-- `loss::PreparedSensor::steps` meets its contract: a sensor in its ranges has small parts, and they are the rule's. Assumes nothing.
use Rattle.std.proofs.Common.{rules}
use borrow.Author.Tests.{le-leb}
use Rattle.loss.specs.Measured.{fixed_parts, sensor_steps}
use Rattle.loss.specs.SensorSteps.{steps_at}
use Rattle.loss.proofs.Parts.{zero_at_most, calibration_at_most, parasitic_at_most}
use Rattle.loss.proofs.SensorSteps.{not_above, steps_rounded_up}
use Rattle.loss.proofs.PreparedSensor.steps.Goals as goal

pub returns-then-from-torque-clause-answer : goal.returns-then-from-torque-clause-answer
unfolding steps_at
returns-then-from-torque-clause-answer c = search rules

pub sensor_uncertainty-uncertainty-requires : goal.sensor_uncertainty-uncertainty-requires
unfolding fixed_parts
sensor_uncertainty-uncertainty-requires c =
    let p = c.args.self.now in
    (c.temperature_on_sensitivity-a.ensures.bound, rw p.own (zero_at_most p.rules), rw p.own (calibration_at_most p.rules), rw p.own (parasitic_at_most p.rules))

pub returns-clause-answer : goal.returns-clause-answer
unfolding steps_at sensor_steps fixed_parts
returns-clause-answer c =
    let own = c.args.self.now.own in
    let a = c.temperature_on_sensitivity-a.ensures.part in
    let u = c.sensor_uncertainty-uncertainty.ensures.uncertainty in
    rw (le-leb _ _ (rw c.from.ensures at c.if-from-torque.false), u, a, own)

pub returns-clause-rounded_up : goal.returns-clause-rounded_up
returns-clause-rounded_up c =
    let made = not_above _ _ _ _ (returns-clause-answer c) in
    rw made.1 (steps_rounded_up c.args.self.now.rules c.args.torque)
