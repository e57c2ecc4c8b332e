-- Document 02, C-16: what comes of a text that is loaded as a listing.
use Rattle.std.specs.Prelude.{ℕ, ◌+◌, ◌*◌, ◌/◌, Bool, ◌&&◌, ◌==◌, List, [], ◌∷◌, leb, length, get_or}
use Rattle.std.specs.Str.{bytes_eq}
use Rattle.refusal.specs.Outcome.{Outcome, accepted, refuse, ◌>>=◌, require}
use Rattle.grid.specs.Every.{every}
use Rattle.grid.specs.Lists.{tabulate}
use Rattle.grid.specs.Axis.{◌to◌, within, rises, first_step}
use Rattle.grid.specs.declared.Range.{Range}
use Rattle.grid.specs.LossMap.{LossMap}
use Rattle.listing.specs.Listing.{header}
use Rattle.listing_lines.specs.Lines.{Line, lines}
use Rattle.listing_lines.specs.Blanks.{trimmed}
use Rattle.listing_lines.specs.declared.Row.{Row}
use Rattle.load.specs.Rows.{row_at, first_run, last_run, rows_after}

-- "40 for another header or one without its line feed": the rows of the lines, the first of which is the header
unfoldable pub rows_of : List Line → Outcome (List Row)
rows_of [] = refuse 40 0
rows_of (line ∷ later) = do
  _ ← require (line.ended && bytes_eq (trimmed line.bytes) header) 40 0
  rows_after [] (length line.bytes + 1) later

-- how many runs are whole: have as many rows as the first
unfoldable pub run_count : List Row → ℕ
run_count rows = length rows / first_run rows

-- the last run is whole, and the counts are within the limits of the axes
unfoldable pub whole_runs : List Row → Bool
whole_runs rows =
    last_run rows == 0 && leb 2 (run_count rows) && leb (run_count rows) 32 && leb 2 (first_run rows) && leb (first_run rows) 64

-- the map that rows say: a speed for each run, the torques of the first run, and all losses
unfoldable pub map_said : List Row → LossMap
map_said rows = record {
  speeds = tabulate (λ i. (row_at rows (i * first_run rows)).speed) (run_count rows);
  torques = tabulate (λ i. (row_at rows i).torque) (first_run rows);
  entries = tabulate (λ i. (row_at rows i).loss) (length rows);
}

-- each of the numbers is in its range
abbrev pub all_within : Range → List ℕ → Bool
all_within range ns = every (λ i. within range (get_or ns i 0)) (length ns)

abbrev pub axes_within : (speeds torques : List ℕ) → Bool
axes_within speeds torques = all_within (1 to 3000) speeds && all_within (0 to 50000) torques

-- each of them is above the one before
abbrev pub all_rise : List ℕ → Bool
all_rise ns = every (rises ns) (length ns)

-- no loss is too large, and there are enough entries
abbrev pub entries_check : (losses : List ℕ) (lent : ℕ) → Outcome (Unit {0})
entries_check losses lent = do
  _ ← require (every (λ i. leb (get_or losses i 0) 10000000) (length losses)) 10 0
  require (leb (length losses) lent) 11 (length losses)

-- "then 4, 5, 6, 10 and 11, each tested over the whole map before the next"
unfoldable pub map_check : LossMap → (lent : ℕ) → Outcome (Unit {0})
map_check m lent = do
  _ ← require (axes_within m.speeds m.torques) 4 0
  _ ← require (all_rise m.speeds && all_rise m.torques) 5 0
  _ ← require (first_step m.torques) 6 0
  entries_check m.entries lent

-- the map of a text, where so many entries are lent
unfoldable pub load : List ℕ → (lent : ℕ) → Outcome LossMap
load text lent = do
  rows ← rows_of (lines text)
  _ ← require (whole_runs rows) 42 (length text)
  _ ← map_check (map_said rows) lent
  accepted (map_said rows)
