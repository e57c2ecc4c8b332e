-- A row's right torque, its uncertainty and its loss, as the code has them. Assumes nothing.
use Prim.Native.Nat.{ℕ, ◌+◌, ◌*◌, ◌≤◌}
use mathlib.Core.Path.{◌≡◌, sym}
use mathlib.Core.Bool.{not}
use native.Mathlib.Omega.{arith}
use Rattle.std.proofs.Common.{Option, Some, None, is_some, IfSome}
use lib.Dec.{leb}
use Rattle.refusal.specs.Outcome.{accepted}
use Rattle.refusal.proofs.Steps.{same_value, then_accepted, test_accepted}
use Rattle.loss.specs.Measured.{Row, row_uncertainty, loss_is_under_zero, LossSays}
use Rattle.rows.specs.declared.row.Reading.{Reading}
use Rattle.rows.specs.Rows.{outputs_check}
use Rattle.rows.specs.Acceptance.{OutputsWithin}
use Rattle.rows.specs.Answers.{right_output, uncertainty_outcome}
use Rattle.rows.proofs.Acceptance.{outputs_right}

-- no torque of a right output is above 50,000.00 Nm
pub right_most : (right : Option Reading) → OutputsWithin (right_output right) → IfSome right (λ r. r.torque ≤ 5000000)
right_most None within = tt
right_most (Some r) within = omega (arith, within.0, r.sensor.now.rules.nominal)

-- the code's loss is there where the measured loss is not under zero
pub loss_there : (ratio input output : ℕ) (loss : Option ℕ) → LossSays ratio input output loss → is_some loss ≡ not (loss_is_under_zero ratio input output)
loss_there ratio input output None says = rw says
loss_there ratio input output (Some n) says = rw says.0

-- a row that has an uncertainty passes 7
pub uncertainty_is : (row : Row) (place u : ℕ) → accepted u ≡ uncertainty_outcome row place → OutputsWithin row.outputs × (u ≡ row_uncertainty row)
unfolding uncertainty_outcome
uncertainty_is row place u e =
    let input = test_accepted (leb row.input (100 * row.sensor.nominal)) 7 place _ u (sym e) in
    let outputs = then_accepted (outputs_check row.outputs (place + 4)) _ u input.1 in
    (outputs_right row.outputs (place + 4) outputs.1, sym (same_value _ _ outputs.2))
