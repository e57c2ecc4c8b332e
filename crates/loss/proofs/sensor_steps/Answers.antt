-- `loss::sensor_steps` meets its contract. Assumes nothing.
use Rattle.std.proofs.lemmas.Result.{err_from_is_err_and}
use Rattle.loss.specs.SensorSteps.{steps_answer}
use Rattle.loss.proofs.sensor_steps.Goals as goal

pub returns-in_err-new-clause-answer : goal.returns-in_err-new-clause-answer
unfolding steps_answer
returns-in_err-new-clause-answer c =
    let p = err_from_is_err_and c.from_residual.result c.from_residual.ensures.1 in
    rw (p.1, p.2, ← c.in_err-new.ensures.answer)

pub returns-clause-answer : goal.returns-clause-answer
unfolding steps_answer
returns-clause-answer c = rw (← c.in_ok-new.ensures.answer, c.steps.ensures.answer, c.in_ok-new.ensures.sensor)
