-- `load::runs::Runs::kept_torque` meets its contract. Assumes nothing.
use Rattle.std.proofs.Common.{arith}
use Rattle.load.proofs.Counting.{begun_of}
use Rattle.load.proofs.TorqueDue.{kept_torque}
use Rattle.load.proofs.runs.Runs.kept_torque.Goals as goal
use Rattle.load.proofs.runs.Runs.kept_torque.Goals.{then-self-gt64-via-then-self-gt64, then-self-gt64-via-else-self-gt64+then-self-ge64}

pub returns-then-self-gt64 : goal.returns-then-self-gt64
returns-then-self-gt64 c = λ rows k some.
    elim c.then-self-gt64.branch [
      | then-self-gt64-via-then-self-gt64 w ↦ omega (arith, w.if-self-gt64.true, k.first_run)
      | then-self-gt64-via-else-self-gt64+then-self-ge64 w ↦ omega (arith, w.if-self-ge64.true, begun_of rows _ k some, k.first_run)
    ]

pub returns : goal.returns
returns c = λ rows k some.
    (kept_torque rows _ k some (omega (arith, c.if-self-ge64.false)), omega (arith, c.if-self-gt64.false, k.first_run))
