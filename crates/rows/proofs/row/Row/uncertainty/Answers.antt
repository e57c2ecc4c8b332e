-- `rows::row::Row::uncertainty` meets its contract: what 7 says of each torque, and U of each sensor. Assumes nothing.
use Rattle.std.proofs.Common.{rules, ◌≡◌, ◌+◌, refl, arith}
use Rattle.loss.specs.Measured.{readings, reading_uncertainty, row_uncertainty}
use Rattle.loss.proofs.Parts.{scaled_by_one}
use Rattle.loss.proofs.SensorSteps.{not_above, above}
use Rattle.rows.specs.Rows.{outputs_check}
use Rattle.rows.specs.Answers.{uncertainty_outcome}
use Rattle.rows.proofs.row.Row.uncertainty.Goals as goal
use Rattle.rows.proofs.row.Row.uncertainty.Goals.{in-Some+in_ok-steps-in-Some, in-None}

pub returns-in_err-input : goal.returns-in_err-input
unfolding uncertainty_outcome
returns-in_err-input c =
    let input = above _ _ _ _ c.in_err-input.ensures.answer in
    rw (input.0, ← input.1) (search rules)

pub returns-in_err-output : goal.returns-in_err-output
unfolding uncertainty_outcome outputs_check
returns-in_err-output c =
    let input = not_above _ _ _ _ c.in_ok-input.ensures.answer in
    let output = above _ _ _ _ c.in_err-output.ensures.answer in
    rw (input.0, output.0, ← output.1) (search rules)

pub returns-in_err-steps-in-Some : goal.returns-in_err-steps-in-Some
unfolding uncertainty_outcome outputs_check
returns-in_err-steps-in-Some c =
    let input = not_above _ _ _ _ c.in_ok-input.ensures.answer in
    let output = not_above _ _ _ _ c.in_ok-output.ensures.answer in
    let right = above _ _ _ _ c.in_err-steps-in-Some.ensures.answer in
    let place : c.args.place + 4 + 4 ≡ c.args.place + 8 = omega arith in
    rw (c.in-Some.is, input.0, output.0, right.0, place, ← right.1) (search rules)

pub returns : goal.returns
unfolding uncertainty_outcome outputs_check row_uncertainty readings reading_uncertainty
returns c =
    let input = not_above _ _ _ _ c.in_ok-input.ensures.answer in
    let output = not_above _ _ _ _ c.in_ok-output.ensures.answer in
    elim c.match-self.branch [
      | in-Some+in_ok-steps-in-Some w ↦
          let right = not_above _ _ _ _ w.in_ok-steps-in-Some.ensures.answer in
          rw (w.in-Some.is, input.0, output.0, right.0, c.row_uncertainty.ensures, w.right-is, input.1, output.1, right.1) (simp scaled_by_one refl)
      | in-None w ↦ rw (w.in-None.is, input.0, output.0, c.row_uncertainty.ensures, w.right-is, input.1, output.1) (simp scaled_by_one refl)
    ]
