-- The tests of a row at its place in the data: the code makes them one after the other. Assumes nothing.
use Prim.Native.Nat.{ℕ, ◌+◌, ◌*◌}
use mathlib.Core.Path.{◌≡◌, refl, ◌∙◌}
use mathlib.Core.Bool.{Bool, true, false, not}
use mathlib.Core.List.{List, [], ◌∷◌}
use native.Mathlib.Omega.{arith}
use lib.Dec.{leb}
use Rattle.refusal.specs.Outcome.{Outcome, accepted, refused, ◌>>=◌, require, placed}
use Rattle.loss.specs.Measured.{Output, Row, output, loss_is_under_zero, row_uncertainty, measured_entry}
use Rattle.rows.specs.Rows.{near_axis, outputs_check, row_check}
use Rattle.rows.specs.Answers.{uncertainty_outcome, row_outcome}

placed_test : (test : Bool) (number start offset : ℕ) (rest : Outcome (Unit {0}))
    → placed (λ place. start + place) (require test number offset >>= λ _. rest) ≡ (require test number (start + offset) >>= λ _. placed (λ place. start + place) rest)
placed_test true number start offset rest = refl
placed_test false number start offset rest = refl

placed_outputs : (os : List Output) (start offset : ℕ) → placed (λ place. start + place) (outputs_check os offset) ≡ outputs_check os (start + offset)
unfolding outputs_check
placed_outputs [] start offset = refl
placed_outputs (o ∷ os) start offset =
    let z : start + (offset + 4) ≡ start + offset + 4 = omega arith in
    placed_test (leb o.torque (100 * o.sensor.nominal)) 7 start offset (outputs_check os (offset + 4)) ∙ rw (placed_outputs os start (offset + 4), z)

-- the tests of the loss and of the entry, at a place
abbrev pub loss_tests : (torque ratio input output entry place : ℕ) → Outcome (Unit {0})
loss_tests torque ratio input output entry place = do
  _ ← require (near_axis torque output) 8 (place + 4)
  _ ← require (not (loss_is_under_zero ratio input output)) 9 place
  require (leb entry 10000000) 10 place

module _ (torque : ℕ) (row : Row) (place : ℕ) where
  -- the same tests as those of the row, in their order
  abbrev pub tests_at : Outcome (Unit {0})
  tests_at = do
    _ ← require (leb row.input (100 * row.sensor.nominal)) 7 place
    _ ← outputs_check row.outputs (place + 4)
    loss_tests torque row.ratio row.input (output row) (measured_entry row) place

  pub check_at : placed (λ offset. place + offset) (row_check torque row) ≡ tests_at
  unfolding row_check
  check_at =
      rw (← placed_outputs row.outputs place 4)
      (go (leb row.input (100 * row.sensor.nominal)) (near_axis torque (output row)) (not (loss_is_under_zero row.ratio row.input (output row)))
      (leb (measured_entry row) 10000000) (outputs_check row.outputs 4))
    where
      z : place + 0 ≡ place
      z = omega arith

      go : (a c d e : Bool) (b : Outcome (Unit {0}))
          → placed (λ offset. place + offset) (require a 7 0 >>= λ _. b >>= λ _. require c 8 4 >>= λ _. require d 9 0 >>= λ _. require e 10 0)
          ≡ (require a 7 place >>= λ _. placed (λ offset. place + offset) b >>= λ _. require c 8 (place + 4) >>= λ _. require d 9 place >>= λ _. require e 10 place)
      go false c d e b = rw z
      go true c d e (refused t) = refl
      go true false d e (accepted u) = refl
      go true true false e (accepted u) = rw z
      go true true true false (accepted u) = rw z
      go true true true true (accepted u) = refl

  -- 7 of each sensor and the loss uncertainty first, then 8, 9 and 10
  pub outcome_at : row_outcome torque row place ≡ (uncertainty_outcome row place >>= λ _. loss_tests torque row.ratio row.input (output row) (measured_entry row) place >>= λ _. accepted (measured_entry row))
  unfolding row_outcome uncertainty_outcome
  outcome_at = rw check_at (go (leb row.input (100 * row.sensor.nominal)) (outputs_check row.outputs (place + 4)))
    where
      go : (a : Bool) (b : Outcome (Unit {0}))
          → ((require a 7 place >>= λ _. b >>= λ _. loss_tests torque row.ratio row.input (output row) (measured_entry row) place) >>= λ _. accepted (measured_entry row))
          ≡ ((require a 7 place >>= λ _. b >>= λ _. accepted (row_uncertainty row)) >>= λ _. loss_tests torque row.ratio row.input (output row) (measured_entry row) place >>= λ _. accepted (measured_entry row))
      go false b = refl
      go true (refused t) = refl
      go true (accepted u) = refl
