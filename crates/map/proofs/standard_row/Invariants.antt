-- `map::standard_row` meets its contract. Assumes nothing.
use Rattle.std.proofs.Common.{length, replicate}
use Rattle.refusal.specs.Outcome.{accepted}
use Rattle.grid.proofs.Filling.{Filling}
use Rattle.map.specs.Answers.{standard_at}
use Rattle.map.proofs.standard_row.Given as goal

abbrev pub invariant-loop-i : goal.invariant-loop-i
invariant-loop-i l = Filling (λ j. accepted tt) (standard_at l.component.line l.component.ratio l.torques) (length l.torques) (replicate 64 0) l.row l.i
