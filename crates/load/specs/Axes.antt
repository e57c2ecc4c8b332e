-- The axes of a map that is loaded, as the code makes them.
use Rattle.std.specs.Prelude.{ℕ, ◌<◌, ◌≡◌, true, List, length, get_or, Result, Ok, Err}
use Rattle.refusal.specs.Outcome.{refused}
use Rattle.refusal.specs.Table.{told}
use Rattle.refusal.specs.declared.Refusal.{Refusal}
use Rattle.grid.specs.Axis.{◌to◌, first_step}
use Rattle.grid.specs.LossMap.{LossMap, CountsWithin}
use Rattle.grid.specs.Map.{counted_numbers}
use Rattle.grid.specs.declared.Axis.{Axis}
use Rattle.grid.specs.declared.Grid.{Grid}
use Rattle.load.specs.Load.{all_within, all_rise, map_check}

-- each number is one that an axis can hold
abbrev pub AxisCanHold : List ℕ → Type 0
AxisCanHold ns = (i : ℕ) → i < length ns → get_or ns i 0 < 65536

-- the axis has these numbers
pub record IsAxis {places : ℕ} (ns : List ℕ) (axis : Axis places) : Type 0 where
  pub count : axis.count ≡ length ns
  pub numbers : counted_numbers axis ≡ ns

-- the grid of these numbers, which keep the rules of an axis
pub record GridFits (speeds torques : List ℕ) (grid : Grid) : Type 0 where
  pub speeds_are : counted_numbers grid.speeds ≡ speeds
  pub torques_are : counted_numbers grid.torques ≡ torques
  pub counts : CountsWithin grid
  pub in_ranges : (all_within (1 to 3000) speeds ≡ true) × (all_within (0 to 50000) torques ≡ true)
  pub rise : (all_rise speeds ≡ true) × (all_rise torques ≡ true)
  pub step : first_step torques ≡ true

-- or the refusal of each map with these axes
abbrev pub IsGrid : (speeds torques : List ℕ) → Result Grid Refusal → Type 0
IsGrid speeds torques (Ok grid) = GridFits speeds torques grid
IsGrid speeds torques (Err x) = (m : LossMap) (lent : ℕ) → m.speeds ≡ speeds → m.torques ≡ torques → map_check m lent ≡ refused (told x)
