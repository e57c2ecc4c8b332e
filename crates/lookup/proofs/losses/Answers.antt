-- `lookup::losses` meets its contract. Assumes nothing.
use Rattle.std.proofs.Common.{◌≡◌, true, sym, refl, ap, None, Result, Ok, Err}
use Rattle.std.specs.Prelude.{IsErrAnd}
use Rattle.refusal.specs.Outcome.{Told}
use Rattle.refusal.proofs.Steps.{require_accepted, require_refused}
use Rattle.grid.specs.Map.{valid_map}
use Rattle.lookup.specs.declared.LossesRefusal.{LossesRefusal}
use Rattle.lookup.proofs.ManyPoints.{all_within, losses_answered, map_refused, room_refused, first_refused_answer, leaves_refused, leaves_losses, each_loss}
use Rattle.lookup.proofs.losses.Goals as goal
use Rattle.lookup.proofs.losses.Goals.{In_ok-tested}

-- the refusal that is answered
told_one : (P : LossesRefusal → Type 0) (r : Result (Unit {0}) LossesRefusal) → IsErrAnd r P → (e : LossesRefusal) × (r ≡ Err e) × P e
told_one P (Ok u) h = absurd h
told_one P (Err e) h = (e, refl, h)

-- the same refusal, of no point
abbrev of_no_point : Told → Told
of_no_point t = record { number = t.number; place = t.place; index = None }

valid : (c : In_ok-tested) → valid_map c.args.grid.now c.args.entries.now ≡ true
valid c = require_accepted _ _ (sym (rw c.in_ok-tested.was at c.tested_map.ensures.answer))

pub returns-in_err-tested-clause-leaves : goal.returns-in_err-tested-clause-leaves
returns-in_err-tested-clause-leaves c =
    let answer = require_refused _ _ _ (sym (rw c.in_err-tested.was at c.tested_map.ensures.answer)) in
    let made = told_one _ c.from_residual.result c.from_residual.ensures.1 in
    rw made.1 (leaves_refused _ _ _ _ _ made.0 (map_refused _ _ _ _ answer.0) (rw made.2 (ap of_no_point answer.1)))

pub returns-then-losses-points-clause-leaves : goal.returns-then-losses-points-clause-leaves
returns-then-losses-points-clause-leaves c =
    leaves_refused _ _ _ _ _ _ (room_refused _ _ _ _ (valid (goal.at.returns-then-losses-points-clause-leaves c).In_ok-tested) c.if-losses-points.true) (rw c.into.ensures refl)

pub returns-in_err-check_points-clause-leaves : goal.returns-in_err-check_points-clause-leaves
returns-in_err-check_points-clause-leaves c =
    let same = rw c.in_ok-tested.was at c.tested_map.ensures.same in
    let stopped = rw (c.in_err-check_points.was, same.0, same.1) at c.check_points.ensures in
    let made = told_one _ c.from_residual-in_err-check_points.result c.from_residual-in_err-check_points.ensures.1 in
    rw made.1 (leaves_refused _ _ _ _ _ made.0 (first_refused_answer _ _ _ _ (valid (goal.at.returns-in_err-check_points-clause-leaves c).In_ok-tested) c.if-losses-points.false _ stopped) (rw made.2 refl))

pub write_losses-requires-clause-within : goal.write_losses-requires-clause-within
write_losses-requires-clause-within c = all_within _ c.in_ok-tested.tested.entries.now _ (rw c.in_ok-check_points.was at c.check_points.ensures)

pub returns-clause-leaves : goal.returns-clause-leaves
returns-clause-leaves c =
    let same = rw c.in_ok-tested.was at c.tested_map.ensures.same in
    let all = rw (c.in_ok-check_points.was, same.0, same.1) at c.check_points.ensures in
    leaves_losses _ _ _ _ _ (losses_answered _ _ _ _ (valid (goal.at.returns-clause-leaves c).In_ok-tested) c.if-losses-points.false all) (rw (same.0, same.1) at c.write_losses.ensures)

pub returns-clause-single : goal.returns-clause-single
returns-clause-single c =
    let same = rw c.in_ok-tested.was at c.tested_map.ensures.same in
    let all = rw (c.in_ok-check_points.was, same.0, same.1) at c.check_points.ensures in
    each_loss _ _ _ _ _ (valid (goal.at.returns-clause-single c).In_ok-tested) (all_within _ _ _ all) (rw (same.0, same.1) at c.write_losses.ensures)
