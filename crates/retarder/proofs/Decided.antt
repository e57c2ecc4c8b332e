-- A drag is answered exactly when no refusal applies: the statement of specs/Laws. Assumes nothing.
use Rattle.std.proofs.Common.{◌≡◌, ℕ, true, List, length, get_or, sym}
use mathlib.Core.Logic.{⊎_elim}
use borrow.Author.Tests.{leb-true, le-leb, eqb-true, eq-eqb}
use Rattle.std.proofs.lemmas.Bool.{both_ways, false_from_ne_true}
use Rattle.refusal.specs.Outcome.{Told, accepted, refused, ◌>>=◌, require}
use Rattle.refusal.proofs.Steps.{never, same_value, test_accepted, test_refused}
use Rattle.grid.proofs.Every.{and_fst, and_snd, every_at, every_of}
use Rattle.retarder.specs.Drag.{retarder_speed, drag_fits, within_limits, drags_fit, speed_within, drag_at, drag_answer}
use Rattle.retarder.specs.Laws.{WithinLimits, DragsFit, SpeedWithin, DragFault, out_of_limits, drag_out_of_range, speed_outside, DragDecided, DragLaws}
use Rattle.retarder.proofs.Accurate.{accurate}

-- ---- the three tests, as the rules that they test, both ways

pub within : (readings : List ℕ) (v : ℕ) → speed_within readings v ≡ true → SpeedWithin readings v
within readings v e = record { from = leb-true _ _ (and_fst _ _ e); upto = leb-true _ _ (and_snd _ _ e) }

pub within_test : (readings : List ℕ) (v : ℕ) → SpeedWithin readings v → speed_within readings v ≡ true
within_test readings v r = rw (le-leb _ _ r.from, le-leb _ _ r.upto)

module _ (readings bearing_losses : List ℕ) where
  pub limits : (ratio : ℕ) → within_limits readings bearing_losses ratio ≡ true → WithinLimits readings bearing_losses ratio
  limits ratio e =
      let r = and_fst _ _ e in
      let n = and_snd _ _ e in
      let c = and_fst _ _ n in
      record {
        ratio_from = leb-true _ _ (and_fst _ _ r);
        ratio_upto = leb-true _ _ (and_snd _ _ r);
        count_from = leb-true _ _ (and_fst _ _ c);
        count_upto = leb-true _ _ (and_snd _ _ c);
        equal_in_number = eqb-true _ _ (and_snd _ _ n);
      }

  pub limits_test : (ratio : ℕ) → WithinLimits readings bearing_losses ratio → within_limits readings bearing_losses ratio ≡ true
  limits_test ratio r = rw (le-leb _ _ r.ratio_from, le-leb _ _ r.ratio_upto, le-leb _ _ r.count_from, le-leb _ _ r.count_upto) (eq-eqb _ _ r.equal_in_number)

  pub fits : drags_fit readings bearing_losses ≡ true → DragsFit readings bearing_losses
  fits e i l =
      let t = every_at (λ k. drag_fits (get_or readings k 0) (get_or bearing_losses k 0)) (length readings) e i l in
      (leb-true _ _ (and_fst _ _ t), leb-true _ _ (and_snd _ _ t))

  pub fits_test : DragsFit readings bearing_losses → drags_fit readings bearing_losses ≡ true
  fits_test r =
      every_of (λ k. drag_fits (get_or readings k 0) (get_or bearing_losses k 0)) (length readings)
      (λ k l. let t = r k l in rw (le-leb _ _ t.0, le-leb _ _ t.1))

-- ---- the answer

module _ (readings bearing_losses : List ℕ) (ratio speed : ℕ) where
  abbrev v : ℕ
  v = retarder_speed ratio speed

  refused_for : (told : Told) → DragFault readings bearing_losses ratio speed told → drag_answer readings bearing_losses ratio speed ≡ refused told
  unfolding drag_answer
  refused_for told (out_of_limits broken e) = rw (e, false_from_ne_true _ (λ t. broken (limits readings bearing_losses ratio t)))
  refused_for told (drag_out_of_range l broken e) = rw (e, limits_test readings bearing_losses ratio l, false_from_ne_true _ (λ t. broken (fits readings bearing_losses t)))
  refused_for told (speed_outside l f broken e) =
      rw (e, limits_test readings bearing_losses ratio l, fits_test readings bearing_losses f, false_from_ne_true _ (λ t. broken (within readings v t)))

  refused_only : (told : Told) → drag_answer readings bearing_losses ratio speed ≡ refused told → DragFault readings bearing_losses ratio speed told
  unfolding drag_answer
  refused_only told e =
      ⊎_elim
      (λ a. out_of_limits (λ l. both_ways _ a.0 (limits_test readings bearing_losses ratio l)) a.1)
      (λ a.
      let l = limits readings bearing_losses ratio a.0 in
      ⊎_elim
      (λ b. drag_out_of_range l (λ f. both_ways _ b.0 (fits_test readings bearing_losses f)) b.1)
      (λ b.
      ⊎_elim
      (λ c. speed_outside l (fits readings bearing_losses b.0) (λ w. both_ways _ c.0 (within_test readings v w)) c.1)
      (λ c. never told _ (sym c.1))
      (test_refused (speed_within readings v) 47 0 _ told b.1))
      (test_refused (drags_fit readings bearing_losses) 46 0 _ told a.1))
      (test_refused (within_limits readings bearing_losses ratio) 45 0 _ told e)

  answered : WithinLimits readings bearing_losses ratio → DragsFit readings bearing_losses → SpeedWithin readings v → drag_answer readings bearing_losses ratio speed ≡ accepted (drag_at readings bearing_losses v)
  unfolding drag_answer
  answered l f w = rw (limits_test readings bearing_losses ratio l, fits_test readings bearing_losses f, within_test readings v w)

  answered_only : (answer : ℕ) → drag_answer readings bearing_losses ratio speed ≡ accepted answer
      → WithinLimits readings bearing_losses ratio × DragsFit readings bearing_losses × SpeedWithin readings v × (answer ≡ drag_at readings bearing_losses v)
  unfolding drag_answer
  answered_only answer e =
      let rest = require (speed_within readings v) 47 0 >>= λ _. accepted (drag_at readings bearing_losses v) in
      let a = test_accepted (within_limits readings bearing_losses ratio) 45 0 (require (drags_fit readings bearing_losses) 46 0 >>= λ _. rest) answer e in
      let b = test_accepted (drags_fit readings bearing_losses) 46 0 rest answer a.1 in
      let c = test_accepted (speed_within readings v) 47 0 (accepted (drag_at readings bearing_losses v)) answer b.1 in
      (limits readings bearing_losses ratio a.0, fits readings bearing_losses b.0, within readings v c.0, sym (same_value _ _ c.1))

  decided : DragDecided readings bearing_losses ratio speed
  decided = record { answered = answered; answered_only = answered_only; refused_for = refused_for; refused_only = refused_only }

pub drag_laws : DragLaws
drag_laws = record {
  decided = decided;
  accurate = λ readings bearing_losses ratio speed answer e.
      let a = answered_only readings bearing_losses ratio speed answer e in
      rw a.3 (accurate readings bearing_losses ratio (retarder_speed ratio speed) a.0 a.2);
}
