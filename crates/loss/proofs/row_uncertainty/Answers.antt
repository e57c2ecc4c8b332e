-- `loss::row_uncertainty` meets its contract: the squares fit 64 bits, and the root of their sum 32. Assumes nothing.
use Rattle.std.proofs.Common.{◌≤◌, ◌*◌, [], ◌∷◌, arith}
use Rattle.loss.proofs.Parts.{scaled_at_most}
use Rattle.loss.proofs.Rows.{squares_fit, root_fits}
use Rattle.loss.proofs.row_uncertainty.Goals as goal
use Rattle.loss.proofs.row_uncertainty.Goals.{in-Some, in-None, After-from-output}

at_wheel_most : (c : After-from-output) → c.scaled_uncertainty-at_wheel.result ≤ 43000000 * 66
at_wheel_most c = rw c.scaled_uncertainty-at_wheel.ensures (scaled_at_most 66 (omega (arith, c.ranges.ratio.fits)) c.requires.input)

output_most : (c : After-from-output) → c.from-output.result ≤ 43000000
output_most c = omega (arith, c.requires.output, c.from-output.ensures)

pub loss_uncertainty-uncertainty-requires : goal.loss_uncertainty-uncertainty-requires
loss_uncertainty-uncertainty-requires c =
    let b = (goal.at.loss_uncertainty-uncertainty-requires c).After-from-output in
    let right = rw c.in-Some.is at c.requires.right in
    squares_fit 66 (c.from-output.result ∷ c.from.result ∷ []) (at_wheel_most b) (output_most b, (omega (arith, right, c.from.ensures), tt)) (omega arith) (omega arith)

pub loss_uncertainty-uncertainty-requires-in-None : goal.loss_uncertainty-uncertainty-requires-in-None
loss_uncertainty-uncertainty-requires-in-None c =
    let b = (goal.at.loss_uncertainty-uncertainty-requires-in-None c).After-from-output in
    squares_fit 66 (c.from-output.result ∷ []) (at_wheel_most b) (output_most b, tt) (omega arith) (omega arith)

pub overflow_cast-result : goal.overflow_cast-result
overflow_cast-result c =
    let b = (goal.at.overflow_cast-result c).After-from-output in
    elim c.match-right.branch [
      | in-Some s ↦
          let right = rw s.in-Some.is at c.requires.right in
          let root = root_fits 66 (c.from-output.result ∷ s.from.result ∷ []) (at_wheel_most b) (output_most b, (omega (arith, right, s.from.ensures), tt)) (omega arith) (omega arith) in
          record { fits = omega (arith, s.loss_uncertainty-uncertainty.ensures, s.uncertainty-is, root) }
      | in-None n ↦
          let root = root_fits 66 (c.from-output.result ∷ []) (at_wheel_most b) (output_most b, tt) (omega arith) (omega arith) in
          record { fits = omega (arith, n.loss_uncertainty-uncertainty-in-None.ensures, n.uncertainty-is, root) }
    ]
