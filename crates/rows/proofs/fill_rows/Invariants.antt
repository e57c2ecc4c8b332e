-- `rows::fill_rows` meets its contract. Assumes nothing.
use Rattle.std.proofs.Common.{◌*◌, length}
use Rattle.grid.proofs.Filling.{Joining}
use Rattle.rows.specs.Answers.{speed_part_check, speed_part_entries, bench_of}
use Rattle.rows.proofs.fill_rows.Given as goal

abbrev pub invariant-loop-speed : goal.invariant-loop-speed
invariant-loop-speed l =
    Joining (speed_part_check (bench_of l.bench) l.torques l.rows.bytes.now l.rows.start) (speed_part_entries (bench_of l.bench) l.torques l.rows.bytes.now) (length l.torques) l.speeds l.initial.entries l.entries (l.speed * length l.torques) l.speed
