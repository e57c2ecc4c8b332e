-- `rows::fill_rows` meets its contract. Assumes nothing.
use Rattle.std.proofs.Common.{◌≡◌, ◌+◌, ◌*◌, length, length-drop, rules, sym, arith}
use native.Mathlib.Nat.{zero-mul, mul-le-mul_left}
use Rattle.refusal.specs.Table.{outcome_of}
use Rattle.refusal.proofs.First.{refused_there, all_passed}
use Rattle.grid.proofs.Filling.{none_joined, room, one_joined, tail_lent}
use Rattle.component.specs.Component.{sensor_count, row_length}
use Rattle.rows.specs.Answers.{bench_of, speed_part_check, speed_part_entries}
use Rattle.rows.proofs.RowParts.{speed_size}
use Rattle.rows.proofs.fill_rows.Goals as goal
use Rattle.rows.proofs.fill_rows.Goals.{After-fill_speed}

pub loop-speed-init : goal.loop-speed-init
loop-speed-init c = rw zero-mul (none_joined _ _ _ _ (speed_size _ _ _ _) _)

pub fill_speed-requires-clause-rows : goal.fill_speed-requires-clause-rows
fill_speed-requires-clause-rows c =
    let r = room _ _ _ _ (speed_size _ _ _ _) _ _ _ _ c.loop-speed.invariant c.loop-speed-test.true in
    rw (tail_lent, c.row_length-length.ensures, length-drop) (omega (arith, mul-le-mul_left (row_length (sensor_count (bench_of c.args.bench.now).outputs)) r))

answer : (c : After-fill_speed) → outcome_of c.fill_speed.result ≡ speed_part_check (bench_of c.args.bench.now) c.args.torques.now c.args.rows.bytes.now c.args.rows.start c.loop-speed.speed
unfolding speed_part_check
answer c = rw (tail_lent, c.row_length-length.ensures) at c.fill_speed.ensures.answer

pub returns-in_err-fill_speed-clause-answer : goal.returns-in_err-fill_speed-clause-answer
returns-in_err-fill_speed-clause-answer c =
    let o = rw c.in_err-fill_speed.was at (answer (goal.at.returns-in_err-fill_speed-clause-answer c).After-fill_speed) in
    rw (← refused_there _ _ c.loop-speed.invariant.passed c.loop-speed-test.true _ (sym o)) (search rules)

pub loop-speed-preserved : goal.loop-speed-preserved
unfolding speed_part_entries
loop-speed-preserved c =
    let o = rw c.in_ok-fill_speed.was at (answer (goal.at.loop-speed-preserved c).After-fill_speed) in
    let n = length c.args.torques.now in
    let next : (c.loop-speed.speed + 1) * n ≡ c.loop-speed.speed * n + n = omega arith in
    let written = rw (tail_lent _ c.args.rows.bytes.now, c.row_length-length.ensures) at c.in_ok-fill_speed.ensures.filled in
    rw next
    (one_joined _ _ _ _ (speed_size _ _ _ _) _ _ _ _ c.loop-speed.invariant c.loop-speed-test.true (sym o) _ written (search rules))

pub returns-clause-answer : goal.returns-clause-answer
returns-clause-answer c = all_passed _ _ c.loop-speed.invariant.passed c.loop-speed-test.false
