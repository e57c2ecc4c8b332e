-- `axle::axle_steps` meets its contract. Assumes nothing.
use Rattle.axle.proofs.SensorSteps.{steps_for_c}
use Rattle.axle.proofs.axle_steps.Goals as goal

pub returns : goal.returns
returns c = steps_for_c _ _ _ c.from.ensures _ _ c.into.ensures c.sensor_steps.ensures.answer c.sensor_steps.ensures.rounded_up
