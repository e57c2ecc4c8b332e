-- What is kept of the rows that were read, and how it changes with each row.
use Rattle.std.specs.Prelude.{ℕ, ◌+◌, ◌-◌, ◌*◌, ◌<◌, ◌≤◌, ◌≡◌, ◌⊎◌, ◌==◌, if◌then◌else◌, List, ltb, min, length, get_or, set}
use Rattle.listing_lines.specs.declared.Row.{Row}
use Rattle.load.specs.Rows.{row_at, first_run}
use Rattle.load.specs.Regular.{Regular}
use Rattle.load.specs.declared.runs.Runs.{Runs}

-- a number kept in its place, where there is one
unfoldable pub kept_in : List ℕ → (place n : ℕ) → List ℕ
kept_in places place n = if ltb place (length places) then set places place n else places

-- a loss as it is kept: at most the largest number of 32 bits, which is above every loss of a map
abbrev pub kept_loss : ℕ → ℕ
kept_loss loss = min loss 4294967295

-- of no rows nothing is kept
pub record NoRuns (runs : Runs) : Type 0 where
  pub rows : runs.row_count ≡ 0
  pub first_run : runs.first_run ≡ 0
  pub run_count : runs.run_count ≡ 0
  pub last_run : runs.last_run ≡ 0
  pub speed_places : length runs.speeds ≡ 32
  pub torque_places : length runs.torques ≡ 64

-- with one row more in the first run
abbrev pub with_first_run_row : Runs → Row → Runs
with_first_run_row runs next = record {
  row_count = runs.row_count + 1;
  first_run = runs.first_run + 1;
  run_count = 1;
  last_run = 0;
  last_speed = next.speed;
  speeds = kept_in runs.speeds 0 next.speed;
  torques = kept_in runs.torques runs.row_count next.torque;
}

-- with one row more in a later run
abbrev pub with_later_run_row : Runs → Row → Runs
with_later_run_row runs next = record {
  row_count = runs.row_count + 1;
  first_run = runs.first_run;
  run_count = if runs.last_run + 1 == runs.first_run then runs.run_count + 1 else runs.run_count;
  last_run = if runs.last_run + 1 == runs.first_run then 0 else runs.last_run + 1;
  last_speed = next.speed;
  speeds = kept_in runs.speeds runs.run_count next.speed;
  torques = runs.torques;
}

-- what is kept of these rows: their counts, the speed of the last, and the speeds and torques of the map that they say, as far as there are places
pub record RunsOf (rows : List Row) (runs : Runs) : Type 0 where
  pub regular : Regular rows
  pub count : runs.row_count ≡ length rows
  pub first_run : runs.first_run ≡ first_run rows
  pub divided : length rows ≡ runs.run_count * runs.first_run + runs.last_run
  pub begun : (runs.last_run < runs.first_run) ⊎ (length rows ≡ 0)
  pub few : runs.run_count ≤ length rows
  pub last_speed : 0 < length rows → runs.last_speed ≡ (row_at rows (length rows - 1)).speed
  pub speeds : (i : ℕ) → i < 32 → i * runs.first_run < length rows → get_or runs.speeds i 0 ≡ (row_at rows (i * runs.first_run)).speed
  pub torques : (i : ℕ) → i < 64 → i < runs.first_run → get_or runs.torques i 0 ≡ (row_at rows i).torque
  pub speed_places : length runs.speeds ≡ 32
  pub torque_places : length runs.torques ≡ 64
