-- Document 02, C-16: the rows of a listing in their runs. "The first run of rows with one speed gives the torques. Each later run has as many rows, one speed, and the same torques in order."
use Rattle.std.specs.Prelude.{ℕ, ◌+◌, ◌-◌, ◌%◌, Bool, ◌&&◌, ◌||◌, ◌==◌, if◌then◌else◌, List, [], ◌∷◌, ◌++◌, Option, Some, None, length, get_or}
use Rattle.std.specs.List.{prefix_len}
use Rattle.refusal.specs.Outcome.{Outcome, accepted, refuse, ◌>>=◌, require}
use Rattle.listing_lines.specs.Lines.{Line}
use Rattle.listing_lines.specs.Blanks.{trimmed}
use Rattle.listing_lines.specs.Form.{row_in}
use Rattle.listing_lines.specs.declared.Row.{Row}

-- row i, where there is one
abbrev pub row_at : List Row → ℕ → Row
row_at rows i = get_or rows i (record { speed = 0; torque = 0; loss = 0 })

-- how many rows there are in the first run: those from the start with the speed of the first
unfoldable pub first_run : List Row → ℕ
first_run rows = prefix_len (λ row. row.speed == (row_at rows 0).speed) rows

-- how many rows stand behind the whole runs, those as long as the first: 0 where the last run is whole too
unfoldable pub last_run : List Row → ℕ
last_run rows = length rows % first_run rows

-- the next row goes on with the first run, which ends with another speed
unfoldable pub in_first_run : List Row → Row → Bool
in_first_run rows next = first_run rows == length rows && (length rows == 0 || next.speed == (row_at rows 0).speed)

-- or it stands in a later run: it has the torque of the first run at its place, and the speed of its run, which the run's first row gives
unfoldable pub in_later_run : List Row → Row → Bool
in_later_run rows next =
    next.torque == (row_at rows (last_run rows)).torque
    && (last_run rows == 0 || next.speed == (row_at rows (length rows - last_run rows)).speed)

unfoldable pub follows : List Row → Row → Bool
follows rows next = in_first_run rows next || in_later_run rows next

-- the row of a line, where it has the form of one and its line feed
unfoldable pub row_of : Line → Option Row
row_of line = if line.ended then row_in (trimmed line.bytes) else None

-- or 41 at the line
abbrev pub row_or_refusal : (at : ℕ) → Option Row → Outcome Row
row_or_refusal at (Some row) = accepted row
row_or_refusal at None = refuse 41 at

-- "line by line 41 for a wrong form or a missing line feed and 42 for a row that breaks its run, with the offset of the line's first byte": the rows of the lines from this offset on, after those before them
unfoldable pub rows_after : List Row → (at : ℕ) → List Line → Outcome (List Row)
rows_after rows at [] = accepted rows
rows_after rows at (line ∷ later) = do
  next ← row_or_refusal at (row_of line)
  _ ← require (follows rows next) 42 at
  rows_after (rows ++ (next ∷ [])) (at + length line.bytes + 1) later
