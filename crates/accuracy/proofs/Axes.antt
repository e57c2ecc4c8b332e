-- Axes that keep their rules: neighbours are apart, and what a cell that has a point is like. Assumes nothing.
use Prim.Native.Nat.{ℕ, ◌+◌, ◌*◌, ◌-◌, ◌≤◌, ◌<◌, zero-le}
use mathlib.Core.Path.{◌≡◌}
use mathlib.Core.List.{List}
use mathlib.Core.Logic.{⊎_elim}
use native.Mathlib.Omega.{arith}
use lib.ListN.{get_or}
use Rattle.cell.specs.Cell.{Cell, Has}
use Rattle.cell.specs.declared.Point.{Point}
use Rattle.lookup.proofs.Axes.{RisingAxes, rise_le}
use Rattle.accuracy.specs.Claim.{FromFirstTorque, BelowFirstTorque}

-- ---- a cell that has a point

module _ {speeds torques : List ℕ} {p : Point} {k : Cell} (rules : RisingAxes speeds torques) (has : Has speeds torques p k) where
  -- The neighbours' differences are above 0. So a share never meets a denominator of 0, and y - x is never cut off.
  pub speeds_apart : 10 * get_or speeds k.speed 0 < 10 * get_or speeds (k.speed + 1) 0
  speeds_apart = omega (arith, rules.speeds.rises k.speed has.speed_in)

  pub torques_apart : 100 * get_or torques k.torque 0 < 100 * get_or torques (k.torque + 1) 0
  torques_apart = omega (arith, rules.torques.rises k.torque has.torque_in)

  pub speed_difference : 0 < 10 * get_or speeds (k.speed + 1) 0 - 10 * get_or speeds k.speed 0
  speed_difference = omega (arith, speeds_apart)

  pub torque_difference : 0 < 100 * get_or torques (k.torque + 1) 0 - 100 * get_or torques k.torque 0
  torque_difference = omega (arith, torques_apart)

  -- from the first torque upwards the cell begins at or below the point
  pub cell_from : FromFirstTorque torques p → 100 * get_or torques k.torque 0 ≤ p.torque
  cell_from l = ⊎_elim (λ a. a) (λ e. rw e l) has.bottom

  -- below the first torque the cell is one of the first two torques
  pub cell_first : BelowFirstTorque torques p → k.torque ≡ 0
  cell_first l =
      ⊎_elim (λ a. absurd (omega (arith, rise_le torques rules.torques 0 k.torque zero-le (omega (arith, has.torque_in))))) (λ e. e) has.bottom
