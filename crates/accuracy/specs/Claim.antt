-- Document 01, "Accuracy over whole numbers": demand 3 of one map, for a point and a cell that has it. Losses are in hundredths of Nm.
-- Entries and exact entries are given at the indices of the grid: a speed's, then a torque's.
use Rattle.std.specs.Prelude.{ℕ, ◌+◌, ◌*◌, ◌≤◌, ◌<◌, List, ◌⊎◌, length, get_or, ℤ}
use Rattle.arith.specs.Fraction.{Fraction, whole, signed, ◌⊕◌, ◌≼◌, ◌≺◌, RoundsUp}
use Rattle.loss.specs.Exact.{Cut, EntryAccurate}
use Rattle.cell.specs.Cell.{Cell, Side, Corners, weight, sum, index, corners}
use Rattle.cell.specs.declared.Point.{Point}

-- ---- an entry

-- the limits of an entry at each point of the grid; the excess is in hundredths of Nm
abbrev pub EntriesAccurate : (excess : ℕ) (speeds torques : List ℕ) (entry : ℕ → ℕ → ℕ) (exact : ℕ → ℕ → Cut) → Type 0
EntriesAccurate excess speeds torques entry exact =
    (i j : ℕ) → i < length speeds → j < length torques → EntryAccurate excess (exact i j) (entry i j)

-- ---- the fractions that an answer is held against

-- the exact entry at a corner of a cell
abbrev pub exact_corner : (ℕ → ℕ → Cut) → Cell → Side → Side → Cut
exact_corner exact k s t = exact (index k.speed s) (index k.torque t)

-- one fraction a corner, for the lower limits: at the exact corner or on the side of it that lowers the weighted sum; any where the weight is 0
pub record ChosenBelow (speeds torques : List ℕ) (exact : ℕ → ℕ → Cut) (p : Point) (k : Cell) (f : Corners Fraction) : Type 0 where
  pub positive : (s t : Side) → whole 0 ≺ weight speeds torques p k s t → (exact_corner exact k s t).AtOrBelow (f s t)
  pub negative : (s t : Side) → weight speeds torques p k s t ≺ whole 0 → (exact_corner exact k s t).AtOrAbove (f s t)

-- for the upper limits, "with the sides turned"
pub record ChosenAbove (speeds torques : List ℕ) (exact : ℕ → ℕ → Cut) (p : Point) (k : Cell) (f : Corners Fraction) : Type 0 where
  pub positive : (s t : Side) → whole 0 ≺ weight speeds torques p k s t → (exact_corner exact k s t).AtOrAbove (f s t)
  pub negative : (s t : Side) → weight speeds torques p k s t ≺ whole 0 → (exact_corner exact k s t).AtOrBelow (f s t)

-- ---- an answer

-- the sum of the entries at the cell's corners, each times its weight: what "Loss at a point" rounds up once
abbrev pub entry_sum : (speeds torques : List ℕ) (entry : ℕ → ℕ → ℕ) → Point → Cell → Fraction
entry_sum speeds torques entry p k = sum speeds torques p k (corners (λ i j. whole (entry i j)) k)

-- the two stretches of torque that have limits of their own
abbrev pub FromFirstTorque : (torques : List ℕ) → Point → Type 0
FromFirstTorque torques p = 100 * get_or torques 0 0 ≤ p.torque

abbrev pub BelowFirstTorque : (torques : List ℕ) → Point → Type 0
BelowFirstTorque torques p = p.torque < 100 * get_or torques 0 0

-- a torque is in one of them and not in both
pub record OneStretch (torques : List ℕ) (p : Point) : Type 0 where
  pub one : FromFirstTorque torques p ⊎ BelowFirstTorque torques p
  pub not_both : FromFirstTorque torques p → BelowFirstTorque torques p → ⊥

-- how far an answer may be from the exact loss, in hundredths of Nm; from the first torque upwards it is never below
pub record Figures : Type 0 where
  -- from the first torque upwards: less than this above
  pub above : ℕ
  -- below the first torque: less than this below, and less than this above
  pub below_first : ℕ
  pub above_first : ℕ

-- The answer z is that of "Loss at a point", and it keeps its limits against every choice of fractions on the sides of the exact corners.
-- Of any speeds, torques, entries and exact entries.
pub record Held (figures : Figures) (speeds torques : List ℕ) (entry : ℕ → ℕ → ℕ) (exact : ℕ → ℕ → Cut) (p : Point) (k : Cell) (z : ℤ) : Type 0 where
  pub named : RoundsUp (entry_sum speeds torques entry p k) z
  pub never_below : FromFirstTorque torques p → (f : Corners Fraction) → ChosenBelow speeds torques exact p k f
      → sum speeds torques p k f ≼ signed z
  pub not_far_above : FromFirstTorque torques p → (f : Corners Fraction) → ChosenAbove speeds torques exact p k f
      → signed z ≺ sum speeds torques p k f ⊕ whole figures.above
  pub not_far_below_first : BelowFirstTorque torques p → (f : Corners Fraction) → ChosenBelow speeds torques exact p k f
      → sum speeds torques p k f ≺ signed z ⊕ whole figures.below_first
  pub not_far_above_first : BelowFirstTorque torques p → (f : Corners Fraction) → ChosenAbove speeds torques exact p k f
      → signed z ≺ sum speeds torques p k f ⊕ whole figures.above_first

-- the figures that entries with this excess give: the rounding of the answer adds 1
abbrev pub figures_of : (excess : ℕ) → Figures
figures_of excess = record { above = excess + 1; below_first = excess; above_first = 2 * excess + 1 }
