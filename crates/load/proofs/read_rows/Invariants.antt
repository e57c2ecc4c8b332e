-- `load::read_rows` meets its contract. Assumes nothing.
use Rattle.std.proofs.Common.{length}
use Rattle.load.proofs.Reading.{Reading}
use Rattle.load.proofs.read_rows.Given as goal

abbrev pub invariant-loop-rest : goal.invariant-loop-rest
invariant-loop-rest l = Reading l.text l.rest l.run_before l.losses l.runs

abbrev pub decreases-loop-rest : goal.decreases-loop-rest
decreases-loop-rest l = length l.rest
