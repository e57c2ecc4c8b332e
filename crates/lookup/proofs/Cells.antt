-- The cell of a point within the limits of a map, by the numbers in the map's arrays. Assumes nothing.
use Rattle.std.proofs.Common.{◌≡◌, ℕ, ◌+◌, ◌*◌, ◌≤◌, ◌<◌, true, List, length, sym, arith}
use Rattle.std.proofs.lemmas.List.{get_or-take}
use native.Mathlib.Nat.{add-mul, mul-le-mul_right}
use Rattle.grid.specs.Map.{counted_numbers, valid_map}
use Rattle.grid.specs.Rules.{MapRules}
use Rattle.grid.specs.declared.Grid.{Grid}
use Rattle.grid.proofs.Map.{map_facts}
use Rattle.cell.specs.Cell.{Within, Cell, Has}
use Rattle.cell.specs.declared.Point.{Point}
use Rattle.cell.specs.Rounding.{ceiling}
use Rattle.cell.specs.Interpolation.{cell_numbers, interpolation, CellThere, CellBounds}
use Rattle.lookup.specs.Loss.{cell_of, loss_at}
use Rattle.lookup.proofs.Axes.{count_taken, map_axes, cell_has}
use Rattle.lookup.proofs.Weights.{ceiling_interpolation}

in_grid : (i j n m : ℕ) → i + 1 < n → j + 1 < m → i * m + j + m + 1 < n * m
in_grid i j n m p q = let h : i + 2 ≤ n = omega arith in omega (arith, add-mul i 2 m, mul-le-mul_right m h)

module _ (grid : Grid) (entries : List ℕ) (p : Point) (valid : valid_map grid entries ≡ true) (w : Within (counted_numbers grid.speeds) (counted_numbers grid.torques) p) where
  rules : MapRules grid entries
  rules = map_facts grid entries valid

  abbrev pub k : Cell
  k = cell_of (counted_numbers grid.speeds) (counted_numbers grid.torques) p

  has : Has (counted_numbers grid.speeds) (counted_numbers grid.torques) p k
  has = cell_has _ _ (map_axes grid entries valid) p w

  speed_in : k.speed + 1 < grid.speeds.count
  speed_in = omega (arith, has.speed_in, count_taken _ _ _ _ rules.axes.speeds)

  torque_in : k.torque + 1 < grid.torques.count
  torque_in = omega (arith, has.torque_in, count_taken _ _ _ _ rules.axes.torques)

  last_in : k.speed * grid.torques.count + k.torque + grid.torques.count + 1 < grid.speeds.count * grid.torques.count
  last_in = in_grid _ _ _ _ speed_in torque_in

  pub cell_there : CellThere grid.torques.count entries k
  cell_there = record {
    speed = omega (arith, speed_in, rules.axes.speeds.at_most);
    torque = omega (arith, torque_in, rules.axes.torques.at_most);
    row = rules.axes.torques.at_most;
    last = omega (arith, last_in, rules.enough);
  }

  -- the numbers in the arrays are those of the axes
  same_numbers : cell_numbers grid.speeds.numbers grid.torques.numbers grid.torques.count entries k ≡ cell_numbers (counted_numbers grid.speeds) (counted_numbers grid.torques) (length (counted_numbers grid.torques)) entries k
  unfolding cell_numbers
  same_numbers =
      let n = grid.speeds.count in
      let m = grid.torques.count in
      let a : k.speed < n = omega (arith, speed_in) in
      let b : k.torque < m = omega (arith, torque_in) in
      rw (count_taken _ _ _ _ rules.axes.torques, get_or-take n grid.speeds.numbers k.speed 0 a, get_or-take n grid.speeds.numbers (k.speed + 1) 0 speed_in, get_or-take m grid.torques.numbers k.torque 0 b, get_or-take m grid.torques.numbers (k.torque + 1) 0 torque_in)

  pub cell_bounds : CellBounds (cell_numbers grid.speeds.numbers grid.torques.numbers grid.torques.count entries k) p
  unfolding cell_numbers
  cell_bounds =
      let n = grid.speeds.count in
      let m = grid.torques.count in
      let small = λ (e : ℕ) (l : e ≤ k.speed * m + k.torque + m + 1). rules.small e (omega (arith, last_in)) in
      record {
        wide = omega (arith, rules.axes.speeds.rising k.speed speed_in);
        tall = omega (arith, rules.axes.torques.rising k.torque torque_in);
        fastest = omega (arith, (rules.axes.speeds.ranges (k.speed + 1) speed_in).1);
        strongest = omega (arith, (rules.axes.torques.ranges (k.torque + 1) torque_in).1);
        speed = omega (arith, has.upto, get_or-take n grid.speeds.numbers (k.speed + 1) 0 speed_in, (rules.axes.speeds.ranges (k.speed + 1) speed_in).1);
        torque = omega (arith, has.top, get_or-take m grid.torques.numbers (k.torque + 1) 0 torque_in, (rules.axes.torques.ranges (k.torque + 1) torque_in).1);
        e00 = small _ (omega arith);
        e01 = small _ (omega arith);
        e10 = small _ (omega arith);
        e11 = small _ (omega arith);
      }

  pub loss_of_cell : ceiling (interpolation (cell_numbers grid.speeds.numbers grid.torques.numbers grid.torques.count entries k) p) ≡ loss_at (counted_numbers grid.speeds) (counted_numbers grid.torques) entries p
  unfolding loss_at
  loss_of_cell = rw same_numbers (sym (ceiling_interpolation _ _ (map_axes grid entries valid) p k has entries))
