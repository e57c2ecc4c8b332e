-- `map::build_rows` meets its contract. Assumes nothing.
use Rattle.std.proofs.Common.{◌*◌}
use Rattle.refusal.specs.Outcome.{accepted}
use Rattle.grid.proofs.Filling.{Joining}
use Rattle.map.specs.Answers.{stretch}
use Rattle.map.proofs.build_rows.Given as goal

abbrev pub invariant-loop-speed : goal.invariant-loop-speed
invariant-loop-speed l =
    Joining (λ i. accepted tt) (stretch l.from l.step l.size) l.size l.speeds l.initial.entries l.entries (l.speed * l.size) l.speed
