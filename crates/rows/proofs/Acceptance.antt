-- A row is accepted exactly when it keeps its rules, and refused exactly for the first condition that it meets. Assumes nothing.
use Prim.Native.Nat.{ℕ, ◌+◌, ◌*◌, ◌≤◌, ◌<◌}
use mathlib.Core.Path.{◌≡◌, refl, sym}
use mathlib.Core.Bool.{Bool, true, false, not}
use mathlib.Core.List.{List, [], ◌∷◌}
use mathlib.Core.Logic.{◌⊎◌, inl, inr, ⊎_elim}
use borrow.Author.Tests.{leb-true, leb-false, le-leb, lt-leb, not-true, not-false}
use lib.Dec.{leb}
use Rattle.refusal.specs.Outcome.{Told, accepted, refused, placed}
use Rattle.refusal.proofs.Steps.{never, then_accepted, then_refused, test_accepted, test_refused, require_accepted, require_refused}
use Rattle.grid.proofs.Every.{and_false, and_fst, and_snd, and_not}
use Rattle.loss.specs.Measured.{Output, Row, output, loss_is_under_zero, measured_entry}
use Rattle.rows.specs.Rows.{near_axis, outputs_check, row_check}
use Rattle.rows.specs.Acceptance.{OutputsWithin, OutputsFault, RowRules, RowFault, input_above, output_above, off_axis, negative, too_large}
use Rattle.rows.proofs.RowSteps.{tests_at, check_at}

-- ---- the outputs, over any list of them

pub outputs_right : (os : List Output) (place : ℕ) → outputs_check os place ≡ accepted tt → OutputsWithin os
unfolding outputs_check
outputs_right [] place e = tt
outputs_right (o ∷ os) place e =
    let a = test_accepted (leb o.torque (100 * o.sensor.nominal)) 7 place _ tt e in
    (leb-true _ _ a.0, outputs_right os (place + 4) a.1)

outputs_accepted : (os : List Output) (place : ℕ) → OutputsWithin os → outputs_check os place ≡ accepted tt
unfolding outputs_check
outputs_accepted [] place h = refl
outputs_accepted (o ∷ os) place h = rw (le-leb _ _ h.0, outputs_accepted os (place + 4) h.1)

outputs_wrong : (os : List Output) (place : ℕ) (told : Told) → outputs_check os place ≡ refused told → OutputsFault os place told
unfolding outputs_check
outputs_wrong [] place told e = never told tt (sym e)
outputs_wrong (o ∷ os) place told e =
    ⊎_elim
    (λ a. inl (leb-false _ _ a.0, a.1))
    (λ a. inr (leb-true _ _ a.0, outputs_wrong os (place + 4) told a.1))
    (test_refused (leb o.torque (100 * o.sensor.nominal)) 7 place _ told e)

outputs_refused : (os : List Output) (place : ℕ) (told : Told) → OutputsFault os place told → outputs_check os place ≡ refused told
unfolding outputs_check
outputs_refused [] place told f = absurd f
outputs_refused (o ∷ os) place told (inl f) = rw (f.1, lt-leb _ _ f.0)
outputs_refused (o ∷ os) place told (inr f) = rw (le-leb _ _ f.0) (outputs_refused os (place + 4) told f.1)

-- ---- the row

module _ (torque : ℕ) (row : Row) where
  input_test : Bool
  input_test = leb row.input (100 * row.sensor.nominal)

  loss_test : Bool
  loss_test = not (loss_is_under_zero row.ratio row.input (output row))

  near_both : near_axis torque (output row) ≡ true → (output row ≤ 100 * torque + 500) × (100 * torque ≤ output row + 500)
  unfolding near_axis
  near_both e =
      let a = leb (output row) (100 * torque + 500) in
      let b = leb (100 * torque) (output row + 500) in
      (leb-true _ _ (and_fst a b e), leb-true _ _ (and_snd a b e))

  not_near : near_axis torque (output row) ≡ false → (100 * torque + 500 < output row) ⊎ (output row + 500 < 100 * torque)
  unfolding near_axis
  not_near e = ⊎_elim (λ h. inl (leb-false _ _ h)) (λ h. inr (leb-false _ _ h)) (and_not (leb (output row) (100 * torque + 500)) (leb (100 * torque) (output row + 500)) e)

  pub row_right : row_check torque row ≡ accepted tt → RowRules torque row
  unfolding row_check input_test loss_test
  row_right e =
      let a = test_accepted input_test 7 0 _ tt e in
      let b = then_accepted (outputs_check row.outputs 4) _ tt a.1 in
      let c = test_accepted (near_axis torque (output row)) 8 4 _ tt b.2 in
      let d = test_accepted loss_test 9 0 _ tt c.1 in
      let f = require_accepted (leb (measured_entry row) 10000000) _ d.1 in
      let n = near_both c.0 in
      record {
        input = leb-true _ _ a.0;
        outputs = outputs_right row.outputs 4 b.1;
        not_over = n.0;
        not_under = n.1;
        loss = not-true _ d.0;
        small = leb-true _ _ f;
      }

  pub row_accepted : RowRules torque row → row_check torque row ≡ accepted tt
  unfolding row_check near_axis
  row_accepted r =
      rw (le-leb _ _ r.input, outputs_accepted row.outputs 4 r.outputs, le-leb _ _ r.not_over, le-leb _ _ r.not_under, r.loss, le-leb _ _ r.small)

  -- its first byte is at a place
  pub row_wrong : (place : ℕ) (told : Told) → placed (λ offset. place + offset) (row_check torque row) ≡ refused told → RowFault torque row place told
  unfolding input_test loss_test
  row_wrong place told e =
      ⊎_elim
      (λ a. input_above (leb-false _ _ a.0) a.1)
      (λ a.
      let i = leb-true row.input (100 * row.sensor.nominal) a.0 in
      ⊎_elim
      (λ b. output_above i (outputs_wrong row.outputs (place + 4) told b))
      (λ b.
      let o = outputs_right row.outputs (place + 4) b.1 in
      ⊎_elim
      (λ c. off_axis i o (not_near c.0) c.1)
      (λ c.
      let n = near_both c.0 in
      ⊎_elim
      (λ d. negative i o n.0 n.1 (not-false _ d.0) d.1)
      (λ d.
      let f = require_refused (leb (measured_entry row) 10000000) _ told d.1 in
      too_large i o n.0 n.1 (not-true _ d.0) (leb-false _ _ f.0) f.1)
      (test_refused loss_test 9 place _ told c.1))
      (test_refused (near_axis torque (output row)) 8 (place + 4) _ told b.2))
      (then_refused (outputs_check row.outputs (place + 4)) _ told a.1))
      (test_refused input_test 7 place _ told (rw (check_at torque row place) at e))

  -- and back
  not_near_of : (100 * torque + 500 < output row) ⊎ (output row + 500 < 100 * torque) → near_axis torque (output row) ≡ false
  unfolding near_axis
  not_near_of (inl h) = rw (lt-leb _ _ h)
  not_near_of (inr h) = rw (lt-leb _ _ h) (and_false (leb (output row) (100 * torque + 500)))

  near_of : output row ≤ 100 * torque + 500 → 100 * torque ≤ output row + 500 → near_axis torque (output row) ≡ true
  unfolding near_axis
  near_of h k = rw (le-leb _ _ h, le-leb _ _ k)

  pub row_refused : (place : ℕ) (told : Told) → RowFault torque row place told → placed (λ offset. place + offset) (row_check torque row) ≡ refused told
  row_refused place told f = rw (check_at torque row place) (by_fault f)
    where
      by_fault : RowFault torque row place told → tests_at torque row place ≡ refused told
      by_fault (input_above h e) = rw (e, lt-leb _ _ h)
      by_fault (output_above i f) = rw (le-leb _ _ i, outputs_refused row.outputs (place + 4) told f)
      by_fault (off_axis i o h e) = rw (e, le-leb _ _ i, outputs_accepted row.outputs (place + 4) o, not_near_of h)
      by_fault (negative i o n m h e) = rw (e, le-leb _ _ i, outputs_accepted row.outputs (place + 4) o, near_of n m, h)
      by_fault (too_large i o n m l h e) = rw (e, le-leb _ _ i, outputs_accepted row.outputs (place + 4) o, near_of n m, l, lt-leb _ _ h)
