-- Document 01, "Accuracy over whole numbers": demand 3 as one statement, from bytes through an accepted build to the answers over the axes and entries that it leaves. Losses are in hundredths of Nm.
use Rattle.std.specs.Prelude.{ℕ, ◌<◌, ◌≡◌, List, ℤ, length, get_or, Ok}
use Rattle.refusal.specs.Outcome.{accepted}
use Rattle.grid.specs.Map.{counted_numbers}
use Rattle.grid.specs.declared.Grid.{Grid}
use Rattle.component.specs.Component.{Component, Kind, standard, measured, component}
use Rattle.layout.specs.Rules.{AreBytes}
use Rattle.loss.specs.Exact.{Cut, IsNumber, Near, EntryAccurate, cut, exact_standard, exact_measured}
use Rattle.map.specs.Build.{point_row}
use Rattle.map.specs.Answers.{Builds}
use Rattle.cell.specs.Cell.{Within, Cell, Has, entry_at}
use Rattle.cell.specs.declared.Point.{Point}
use Rattle.lookup.specs.Loss.{loss_answer}
use Rattle.accuracy.specs.Claim.{OneStretch, Figures, Held}

-- ---- the exact entries of component data, by the indices of a point's speed and torque

-- For kind 1 it is the standard loss, not rounded; for kinds 2 and 3 that of the point's row, whose torques stand in the bytes of the rows.
unfoldable pub exact_of_kind : Component → (speed torque : ℕ) → Kind → Cut
exact_of_kind c speed torque standard = cut (exact_standard c.line c.ratio (get_or c.torques torque 0))
exact_of_kind c speed torque (measured input outputs rows) = cut (exact_measured (point_row c speed torque input outputs rows))

unfoldable pub exact_at : Component → (speed torque : ℕ) → Cut
exact_at c speed torque = exact_of_kind c speed torque c.kind

-- ---- an answer

-- From the lowest torque upwards it is never below and less than 0.03 Nm above; under it less than 0.02 Nm below and less than 0.05 Nm above.
abbrev pub figures : Figures
figures = record {
  above = 3;
  below_first = 2;
  above_first = 5;
}

-- A point within the limits of the map has an answer, which is held in every cell that has the point, of which there is one.
pub record Answered (c : Component) (grid : Grid) (entries : List ℕ) (p : Point) : Type 0 where
  pub loss : ℤ
  pub answered : loss_answer grid entries p ≡ accepted loss
  pub some_cell : (k : Cell) × Has c.speeds c.torques p k
  -- one pair of limits applies, and not both
  pub one_stretch : OneStretch c.torques p
  pub held : (k : Cell) → Has c.speeds c.torques p k
      → Held figures c.speeds c.torques (entry_at (length c.torques) entries) (exact_at c) p k loss

-- ---- the claim

-- of data, and of the grid and the entries that stand where its build is done
pub record Accurate (bytes : List ℕ) (grid : Grid) (entries : List ℕ) : Type 0 where
  pub says : Component
  pub read : component bytes ≡ accepted says
  -- the map has the axes that the data says
  pub speeds : counted_numbers grid.speeds ≡ says.speeds
  pub torques : counted_numbers grid.torques ≡ says.torques
  -- each exact entry is one number
  pub one_number : (i j : ℕ) → i < length says.speeds → j < length says.torques → IsNumber (exact_at says i j)
  -- and has fractions on both sides as near to each other as may be asked, so that what is said of all fractions is said of the number itself
  pub fractions_near : (i j n : ℕ) → i < length says.speeds → j < length says.torques → 0 < n → Near (exact_at says i j) n
  -- the limits of each entry: at least the exact one, and less than 0.02 Nm more
  pub entries_near : (i j : ℕ) → i < length says.speeds → j < length says.torques
      → EntryAccurate 2 (exact_at says i j) (entry_at (length says.torques) entries i j)
  pub answers : (p : Point) → Within says.speeds says.torques p → Answered says grid entries p

-- the premises are that bytes are bytes, and what `build` promises where it answers these axes
abbrev pub Demand3 : Type 0
Demand3 = (bytes before after : List ℕ) → AreBytes bytes → (grid : Grid) → Builds bytes before after (Ok grid) → Accurate bytes grid after
