-- `rows::Bench::new` meets its contract: each sensor is checked, in their order. Assumes nothing.
use Rattle.std.proofs.Common.{rules, ◌≡◌, Option, Some, None}
use Rattle.refusal.specs.Outcome.{Told, refused, without_place}
use Rattle.sensor.specs.Sensor.{sensor_check, sensors_check, sensor_numbers}
use Rattle.sensor.specs.declared.Sensor.{Sensor}
use Rattle.component.specs.Answers.{output_sensors}
use Rattle.rows.proofs.Bench.new.Goals as goal

pub returns-in_err-input-clause-answer : goal.returns-in_err-input-clause-answer
unfolding sensors_check
returns-in_err-input-clause-answer c = rw (← c.in_err-input.ensures.answer) (search rules)

-- whether there is a right output or not
output_refused : (output : Sensor) (right : Option Sensor) (t : Told) → refused t ≡ without_place (sensor_check (sensor_numbers output)) → sensors_check (output_sensors output right) ≡ refused t
unfolding sensors_check
output_refused output None t e = rw (← e)
output_refused output (Some right) t e = rw (← e)

pub returns-in_err-output-clause-answer : goal.returns-in_err-output-clause-answer
unfolding sensors_check
returns-in_err-output-clause-answer c =
    rw (← c.in_ok-input.ensures.answer, output_refused _ c.args.right _ c.in_err-output.ensures.answer) (search rules)

pub returns-in_err-new-in-Some-clause-answer : goal.returns-in_err-new-in-Some-clause-answer
unfolding sensors_check
returns-in_err-new-in-Some-clause-answer c =
    rw (c.in-Some.is, ← c.in_ok-input.ensures.answer, ← c.in_ok-output.ensures.answer, ← c.in_err-new-in-Some.ensures.answer) (search rules)

pub returns-in_ok-new-in-Some-clause-answer : goal.returns-in_ok-new-in-Some-clause-answer
unfolding sensors_check
returns-in_ok-new-in-Some-clause-answer c =
    rw (c.in-Some.is, ← c.in_ok-input.ensures.answer, ← c.in_ok-output.ensures.answer, ← c.in_ok-new-in-Some.ensures.answer)

pub returns-in-None-clause-answer : goal.returns-in-None-clause-answer
unfolding sensors_check
returns-in-None-clause-answer c = rw (c.in-None.is, ← c.in_ok-input.ensures.answer, ← c.in_ok-output.ensures.answer)
