-- `fields::read_sensor` meets its contract. Assumes nothing.
use Rattle.std.proofs.Common.{◌<◌, arith, refl, ap, ◌∙◌}
use Rattle.refusal.specs.Outcome.{accepted}
use Rattle.fields.proofs.Sensors.{body_refused, body_read}
use Rattle.sensor.proofs.Sensors.{index_below}
use Rattle.fields.proofs.read_sensor.Goals as goal
use Rattle.fields.proofs.read_sensor.Goals.{In-Some}

-- the index is one of the nine
at_fault : (c : In-Some) → c.in-Some.index < 9
at_fault c = index_below _ _ c.in-Some.ensures

pub overflow_mul-result : goal.overflow_mul-result
overflow_mul-result c = omega (arith, at_fault (goal.at.overflow_mul-result c).In-Some)

pub overflow_add-result : goal.overflow_add-result
overflow_add-result c = omega (arith, at_fault (goal.at.overflow_add-result c).In-Some)

pub returns-in-Some : goal.returns-in-Some
returns-in-Some c = body_refused _ _ _ _ c.requires.0 refl c.fill.ensures _ c.in-Some.ensures

pub returns-in-None : goal.returns-in-None
returns-in-None c = ap accepted c.from.ensures ∙ body_read _ _ _ _ c.requires.0 refl c.fill.ensures c.in-None.ensures
