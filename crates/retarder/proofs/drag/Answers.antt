-- `retarder::drag` meets its contract. Assumes nothing.
use Rattle.std.proofs.Common.{sym, ◌∙◌, refl}
use Rattle.retarder.specs.Drag.{drag_at, drag_answer}
use Rattle.retarder.proofs.Segments.{on_neighbour}
use Rattle.retarder.proofs.Decided.{limits, fits, within, drag_laws}
use Rattle.retarder.proofs.drag.Goals as goal

pub returns-then-not-within_limits-clause-answer : goal.returns-then-not-within_limits-clause-answer
unfolding drag_answer
returns-then-not-within_limits-clause-answer c = rw (sym c.within_limits.ensures ∙ c.if-not-within_limits.true)

pub returns-then-not-drags_fit-clause-answer : goal.returns-then-not-drags_fit-clause-answer
unfolding drag_answer
returns-then-not-drags_fit-clause-answer c = rw (sym c.within_limits.ensures ∙ c.if-not-within_limits.false, sym c.drags_fit.ensures ∙ c.if-not-drags_fit.true)

pub returns-then-not-speed_within-clause-answer : goal.returns-then-not-speed_within-clause-answer
unfolding drag_answer
returns-then-not-speed_within-clause-answer c =
    rw (sym c.within_limits.ensures ∙ c.if-not-within_limits.false, sym c.drags_fit.ensures ∙ c.if-not-drags_fit.false, ← c.retarder_speed-v.ensures, sym c.speed_within.ensures ∙ c.if-not-speed_within.true)

pub drag_on-requires-clause-drags : goal.drag_on-requires-clause-drags
drag_on-requires-clause-drags c = fits _ _ (sym c.drags_fit.ensures ∙ c.if-not-drags_fit.false)

pub drag_on-requires-clause-segment : goal.drag_on-requires-clause-segment
drag_on-requires-clause-segment c =
    let l = limits _ _ c.args.ratio (sym c.within_limits.ensures ∙ c.if-not-within_limits.false) in
    rw c.neighbour.ensures (on_neighbour c.args.readings.now l.count_from l.count_upto _ (within _ _ (sym c.speed_within.ensures ∙ c.if-not-speed_within.false)))

pub returns-clause-answer : goal.returns-clause-answer
unfolding drag_answer drag_at
returns-clause-answer c =
    rw (sym c.within_limits.ensures ∙ c.if-not-within_limits.false, sym c.drags_fit.ensures ∙ c.if-not-drags_fit.false, ← c.retarder_speed-v.ensures, sym c.speed_within.ensures ∙ c.if-not-speed_within.false, c.drag_on.ensures, c.neighbour.ensures) refl

pub returns-clause-accurate : goal.returns-clause-accurate
returns-clause-accurate c = drag_laws.accurate _ _ c.args.ratio c.args.speed _ (sym (returns-clause-answer c))
