-- What holds of rows each of which follows those before it.
use Rattle.std.specs.Prelude.{ℕ, ◌-◌, ◌%◌, ◌<◌, ◌≡◌, List, length}
use Rattle.listing_lines.specs.declared.Row.{Row}
use Rattle.load.specs.Rows.{row_at, first_run}

-- each has the torque of the first run at its place, and the speed of its run's first row
pub record Regular (rows : List Row) : Type 0 where
  pub torques : (k : ℕ) → k < length rows → (row_at rows k).torque ≡ (row_at rows (k % first_run rows)).torque
  pub speeds : (k : ℕ) → k < length rows → (row_at rows k).speed ≡ (row_at rows (k - k % first_run rows)).speed
