-- `rows::fill_speed` meets its contract. Assumes nothing.
use Rattle.std.proofs.Common.{◌≡◌, rules}
use Rattle.refusal.specs.Outcome.{accepted, ◌>>=◌}
use Rattle.refusal.specs.Table.{outcome_of}
use Rattle.refusal.proofs.First.{refused_there, all_passed}
use Rattle.grid.proofs.Filling.{none_filled, one_filled}
use Rattle.rows.specs.Answers.{bench_of, part_check, part_entry}
use Rattle.rows.proofs.RowParts.{part_outcome, refused_by, accepted_by}
use Rattle.rows.proofs.fill_speed.Goals as goal
use Rattle.rows.proofs.fill_speed.Goals.{After-entry}

pub loop-i-init : goal.loop-i-init
loop-i-init c = none_filled _ _ _ _

outcome : (c : After-entry) → outcome_of c.entry.result ≡
    (part_check (bench_of c.args.bench.now) c.args.torques.now c.args.rows.bytes.now c.args.rows.start c.loop-i.i >>= λ _. accepted (part_entry (bench_of c.args.bench.now) c.args.rows.bytes.now c.loop-i.i))
outcome c =
    rw (c.row_at-row.ensures, c.row_length-length.ensures, part_outcome (bench_of c.args.bench.now) c.args.torques.now c.args.rows.bytes.now c.args.rows.start c.loop-i.i) at c.entry.ensures

pub returns-in_err-entry-clause-answer : goal.returns-in_err-entry-clause-answer
returns-in_err-entry-clause-answer c =
    let o = rw c.in_err-entry.was at (outcome (goal.at.returns-in_err-entry-clause-answer c).After-entry) in
    rw (← refused_there _ _ c.loop-i.invariant.passed c.loop-i-test.true _ (refused_by _ _ _ o)) (search rules)

pub loop-i-preserved : goal.loop-i-preserved
loop-i-preserved c =
    let o = accepted_by _ _ _ (rw c.in_ok-entry.was at (outcome (goal.at.loop-i-preserved c).After-entry)) in
    one_filled _ _ _ _ _ _ c.loop-i.invariant c.loop-i-test.true c.requires.entries o.0 _ o.1

pub returns-clause-answer : goal.returns-clause-answer
returns-clause-answer c = all_passed _ _ c.loop-i.invariant.passed c.loop-i-test.false
