-- `load::runs::Runs::in_first_run` meets its contract. Assumes nothing.
use Rattle.std.proofs.Common.{◌∙◌, sym, arith, eq-eqb, ne_eqb}
use Rattle.load.proofs.Counting.{tells_none, tells_speed, tells_later}
use Rattle.load.proofs.runs.Runs.in_first_run.Goals as goal

pub returns-then-self-eq0 : goal.returns-then-self-eq0
returns-then-self-eq0 c = λ rows k. eq-eqb _ _ c.if-self-eq0.true ∙ sym (tells_none rows _ _ k c.if-self.true c.if-self-eq0.true)

pub returns-else-self-eq0 : goal.returns-else-self-eq0
returns-else-self-eq0 c = λ rows k. sym (tells_speed rows _ _ k c.if-self.true (omega (arith, c.if-self-eq0.false)))

pub returns-else-self : goal.returns-else-self
returns-else-self c = λ rows k. ne_eqb _ _ c.if-self.false ∙ sym (tells_later rows _ _ k c.if-self.false)
