-- `grid::check_axis` meets its contract. The invariant: the outcome of all numbers is that of the numbers from i on. Assumes nothing.
use Rattle.std.proofs.Common.{refl, sym, ◌∙◌}
use native.Mathlib.Nat.{sub-zero}
use Rattle.grid.specs.Axis.{axis_numbers}
use Rattle.refusal.proofs.First.{first_none, first_more, first_stops}
use Rattle.grid.proofs.Numbers.{number_right, number_outside, number_level}
use Rattle.grid.proofs.check_axis.Goals as goal

pub loop-i-init : goal.loop-i-init
unfolding axis_numbers
loop-i-init c = rw sub-zero refl

pub returns-then-not-contains : goal.returns-then-not-contains
returns-then-not-contains c =
    sym (c.loop-i.invariant ∙ first_stops _ _ _ _ c.loop-i-test.true (number_outside _ _ _ (sym c.contains.ensures ∙ c.if-not-contains.true)))

pub returns-then-not-above_previous : goal.returns-then-not-above_previous
returns-then-not-above_previous c =
    sym (c.loop-i.invariant ∙ first_stops _ _ _ _ c.loop-i-test.true (number_level _ _ _ (sym c.contains.ensures ∙ c.if-not-contains.false) (sym c.above_previous.ensures ∙ c.if-not-above_previous.true)))

pub loop-i-preserved : goal.loop-i-preserved
loop-i-preserved c =
    c.loop-i.invariant ∙ first_more _ _ _ c.loop-i-test.true (number_right _ _ _ (sym c.contains.ensures ∙ c.if-not-contains.false) (sym c.above_previous.ensures ∙ c.if-not-above_previous.false))

pub returns : goal.returns
returns c = sym (c.loop-i.invariant ∙ first_none _ _ _ c.loop-i-test.false)
