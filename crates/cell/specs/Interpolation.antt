-- The loss in a cell over one denominator, as the code reckons it. That it is the weighted sum of `Loss` is a law of this crate.
use Rattle.std.specs.Prelude.{ℕ, ◌+◌, ◌-◌, ◌*◌, ◌≤◌, ◌<◌, List, length, get_or}
use Rattle.arith.specs.Fraction.{Fraction, ◌less◌over◌}
use Rattle.cell.specs.Cell.{Cell, entry_at}
use Rattle.cell.specs.declared.Point.{Point}
use Rattle.cell.specs.declared.CellNumbers.{CellNumbers}

-- a cell's numbers, from the numbers of both axes and the entries
unfoldable pub cell_numbers : (speeds torques : List ℕ) (torque_count : ℕ) (entries : List ℕ) → Cell → CellNumbers
cell_numbers speeds torques torque_count entries k = record {
  x0 = 10 * get_or speeds k.speed 0;
  x1 = 10 * get_or speeds (k.speed + 1) 0;
  y0 = 100 * get_or torques k.torque 0;
  y1 = 100 * get_or torques (k.torque + 1) 0;
  e00 = entry_at torque_count entries k.speed k.torque;
  e01 = entry_at torque_count entries k.speed (k.torque + 1);
  e10 = entry_at torque_count entries (k.speed + 1) k.torque;
  e11 = entry_at torque_count entries (k.speed + 1) (k.torque + 1);
}

-- Each entry times its weight, over the cell's area. A difference is 0 where it would be negative: below the cell's lower torque the weights
-- of the upper corners stand in what is subtracted.
unfoldable pub interpolation : CellNumbers → Point → Fraction
interpolation k p =
    ((k.x1 - p.speed) * (k.y1 - p.torque) * k.e00
    + (k.x1 - p.speed) * (p.torque - k.y0) * k.e01
    + (p.speed - k.x0) * (k.y1 - p.torque) * k.e10
    + (p.speed - k.x0) * (p.torque - k.y0) * k.e11)
    less ((k.x1 - p.speed) * (k.y0 - p.torque) * k.e01 + (p.speed - k.x0) * (k.y0 - p.torque) * k.e11)
    over ((k.x1 - k.x0) * (k.y1 - k.y0))

-- the cell's numbers and entries are there
pub record CellThere (torque_count : ℕ) (entries : List ℕ) (k : Cell) : Type 0 where
  pub speed : k.speed + 1 < 32
  pub torque : k.torque + 1 < 64
  pub row : torque_count ≤ 64
  pub last : k.speed * torque_count + k.torque + torque_count + 1 < length entries

-- what keeps the arithmetic of a cell within 64 bits
pub record CellBounds (k : CellNumbers) (p : Point) : Type 0 where
  pub wide : k.x0 < k.x1
  pub tall : k.y0 < k.y1
  pub fastest : k.x1 ≤ 30000
  pub strongest : k.y1 ≤ 5000000
  pub speed : p.speed ≤ 30000
  pub torque : p.torque ≤ 5000000
  pub e00 : k.e00 ≤ 10000000
  pub e01 : k.e01 ≤ 10000000
  pub e10 : k.e10 ≤ 10000000
  pub e11 : k.e11 ≤ 10000000
