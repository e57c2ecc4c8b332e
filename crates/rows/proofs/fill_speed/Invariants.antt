-- `rows::fill_speed` meets its contract. Assumes nothing.
use Rattle.std.proofs.Common.{length}
use Rattle.grid.proofs.Filling.{Filling}
use Rattle.rows.specs.Answers.{part_check, part_entry, bench_of}
use Rattle.rows.proofs.fill_speed.Given as goal

abbrev pub invariant-loop-i : goal.invariant-loop-i
invariant-loop-i l =
    Filling (part_check (bench_of l.bench) l.torques l.rows.bytes.now l.rows.start) (part_entry (bench_of l.bench) l.rows.bytes.now) (length l.torques) l.initial.entries l.entries l.i
