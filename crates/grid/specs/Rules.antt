-- Document 01, "Component data", tags 4 and 5, and "Refusals", row 22: the rules of both axes and of a map, said of each number by its index.
use Rattle.std.specs.Prelude.{ℕ, ◌+◌, ◌-◌, ◌*◌, ◌≤◌, ◌<◌, List, length, get_or}
use Rattle.grid.specs.Axis.{◌to◌}
use Rattle.grid.specs.declared.Range.{Range}
use Rattle.grid.specs.declared.Grid.{Grid}

-- both ends are in the range
abbrev pub InRange : Range → ℕ → Type 0
InRange range n = (range.lowest ≤ n) × (n ≤ range.highest)

-- the first count numbers of an axis: 2 to most of them, each in its range, "strictly rising"
pub record AxisRules (range : Range) (most : ℕ) (ns : List ℕ) (count : ℕ) : Type 0 where
  pub at_least : 2 ≤ count
  pub at_most : count ≤ most
  pub ranges : (i : ℕ) → i < count → InRange range (get_or ns i 0)
  pub rising : (i : ℕ) → i + 1 < count → get_or ns i 0 < get_or ns (i + 1) 0

-- tag 5: the first torque is not above the step from it to the second
abbrev pub FirstStep : List ℕ → Type 0
FirstStep torques = get_or torques 0 0 ≤ get_or torques 1 0 - get_or torques 0 0

-- both axes
pub record GridRules (grid : Grid) : Type 0 where
  pub speeds : AxisRules (1 to 3000) 32 grid.speeds.numbers grid.speeds.count
  pub torques : AxisRules (0 to 50000) 64 grid.torques.numbers grid.torques.count
  pub step : FirstStep grid.torques.numbers

-- a map: both axes, an entry for each point, none of them above 10,000,000 hundredths of Nm
pub record MapRules (grid : Grid) (entries : List ℕ) : Type 0 where
  pub axes : GridRules grid
  pub enough : grid.speeds.count * grid.torques.count ≤ length entries
  pub small : (i : ℕ) → i < grid.speeds.count * grid.torques.count → get_or entries i 0 ≤ 10000000
