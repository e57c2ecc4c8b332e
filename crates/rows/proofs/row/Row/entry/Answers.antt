-- `rows::row::Row::entry` meets its contract. Assumes nothing.
use Rattle.std.proofs.Common.{◌≡◌, rules, arith}
use borrow.Author.Tests.{le-leb, lt-leb}
use Rattle.refusal.specs.Outcome.{accepted, ◌>>=◌}
use Rattle.loss.specs.Measured.{output, row_uncertainty, measured_entry}
use Rattle.rows.specs.Acceptance.{OutputsWithin}
use Rattle.rows.specs.Answers.{row_of, row_outcome}
use Rattle.rows.proofs.RowSteps.{loss_tests, outcome_at}
use Rattle.rows.proofs.BenchRows.{right_most, uncertainty_is, loss_there}
use Rattle.rows.proofs.row.Row.entry.Goals as goal
use Rattle.rows.proofs.row.Row.entry.Goals.{In_ok-uncertainty, After-entry-entry}

pub returns-in_err-uncertainty : goal.returns-in_err-uncertainty
returns-in_err-uncertainty c = rw (outcome_at c.args.axis_torque (row_of c.args.self.now) c.args.place, ← c.in_err-uncertainty.ensures) (search rules)

-- ---- once no torque is above its sensor's nominal torque
known : (c : In_ok-uncertainty) → OutputsWithin (row_of c.args.self.now).outputs × (c.in_ok-uncertainty.uncertainty ≡ row_uncertainty (row_of c.args.self.now))
known c = uncertainty_is (row_of c.args.self.now) c.args.place c.in_ok-uncertainty.uncertainty c.in_ok-uncertainty.ensures

pub output_torque-requires-clause-output : goal.output_torque-requires-clause-output
output_torque-requires-clause-output c =
    omega (arith, (known (goal.at.output_torque-requires-clause-output c).In_ok-uncertainty).0.0, c.args.self.now.output.sensor.now.rules.nominal)

pub output_torque-requires-clause-right : goal.output_torque-requires-clause-right
output_torque-requires-clause-right c = right_most _ (known (goal.at.output_torque-requires-clause-right c).In_ok-uncertainty).0.1

others : (c : In_ok-uncertainty) → row_outcome c.args.axis_torque (row_of c.args.self.now) c.args.place
    ≡ (loss_tests c.args.axis_torque c.args.self.now.ratio c.args.self.now.input.torque (output (row_of c.args.self.now)) (measured_entry (row_of c.args.self.now)) c.args.place
    >>= λ _. accepted (measured_entry (row_of c.args.self.now)))
others c = rw (outcome_at c.args.axis_torque (row_of c.args.self.now) c.args.place, ← c.in_ok-uncertainty.ensures)

pub returns-then-not-near_axis : goal.returns-then-not-near_axis
returns-then-not-near_axis c = rw (others (goal.at.returns-then-not-near_axis c).In_ok-uncertainty, ← c.output_torque.ensures, ← c.if-not-near_axis.ensures)

pub returns-then-is_none : goal.returns-then-is_none
returns-then-is_none c =
    rw (
      others (goal.at.returns-then-is_none c).In_ok-uncertainty,
      ← c.output_torque.ensures,
      ← c.if-not-near_axis.ensures,
      ← loss_there _ _ _ _ c.loss.ensures,
      c.if-is_none.ensures,
    )

entry_is : (c : After-entry-entry) → measured_entry (row_of c.args.self.now) ≡ c.entry-entry.result
unfolding measured_entry
entry_is c =
    rw (← (uncertainty_is (row_of c.args.self.now) c.args.place c.in_ok-uncertainty.uncertainty c.in_ok-uncertainty.ensures).1, ← c.output_torque.ensures, c.entry-entry.ensures)

pub returns-then-from-entry : goal.returns-then-from-entry
returns-then-from-entry c =
    rw (
      others (goal.at.returns-then-from-entry c).In_ok-uncertainty,
      ← c.output_torque.ensures,
      ← c.if-not-near_axis.ensures,
      ← loss_there _ _ _ _ c.loss.ensures,
      c.if-is_none.ensures,
      entry_is (goal.at.returns-then-from-entry c).After-entry-entry,
      lt-leb _ _ (rw c.from.ensures at c.if-from-entry.true),
    )

pub returns : goal.returns
returns c =
    rw (
      others (goal.at.returns c).In_ok-uncertainty,
      ← c.output_torque.ensures,
      ← c.if-not-near_axis.ensures,
      ← loss_there _ _ _ _ c.loss.ensures,
      c.if-is_none.ensures,
      entry_is (goal.at.returns c).After-entry-entry,
      le-leb _ _ (rw c.from.ensures at c.if-from-entry.false),
    )
