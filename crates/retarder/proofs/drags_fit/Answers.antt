-- `retarder::drags_fit` meets its contract. Assumes nothing.
use Rattle.std.proofs.Common.{true, refl, sym, ◌∙◌, arith}
use Rattle.grid.specs.Every.{every}
use Rattle.grid.proofs.Every.{every_fails, flag_more, flag_done}
use Rattle.retarder.proofs.drags_fit.Goals as goal

pub loop-i-init : goal.loop-i-init
unfolding every
loop-i-init c = refl

pub returns-then-not-drag_fits : goal.returns-then-not-drag_fits
returns-then-not-drag_fits c = sym (every_fails _ c.loop-i.i _ c.loop-i-test.true (sym c.drag_fits.ensures ∙ c.if-not-drag_fits.true))

pub loop-i-preserved : goal.loop-i-preserved
loop-i-preserved c = sym (flag_more _ c.loop-i.i true true (sym c.loop-i.invariant) (sym c.if-not-drag_fits.false ∙ c.drag_fits.ensures))

pub returns : goal.returns
returns c = flag_done _ c.loop-i.i _ true (sym c.loop-i.invariant) (omega (arith, c.loop-i.auto.i-end, c.loop-i-test.false))
