-- `load::runs::Runs::in_later_run` meets its contract. Assumes nothing.
use Rattle.std.proofs.Common.{◌∙◌, sym, arith, eq-eqb, ne_eqb}
use Rattle.load.proofs.Counting.{run_begins, run_goes_on, run_breaks}
use Rattle.load.proofs.runs.Runs.in_later_run.Goals as goal

pub returns-then-self-eq0 : goal.returns-then-self-eq0
returns-then-self-eq0 c = λ rows k some due. eq-eqb _ _ c.if-self-eq0.true ∙ sym (run_begins rows _ _ k some _ due c.if-next-torque.true c.if-self-eq0.true)

pub returns-else-self-eq0 : goal.returns-else-self-eq0
returns-else-self-eq0 c = λ rows k some due. sym (run_goes_on rows _ _ k some _ due c.if-next-torque.true (omega (arith, c.if-self-eq0.false)))

pub returns-else-next-torque : goal.returns-else-next-torque
returns-else-next-torque c = λ rows k some due. ne_eqb _ _ c.if-next-torque.false ∙ sym (run_breaks rows _ _ k some _ due c.if-next-torque.false)
