-- What the code's answers say in document 02's terms.
use Rattle.std.specs.Prelude.{ℕ, ◌+◌, ◌-◌, ◌<◌, ◌≤◌, ◌≡◌, ◌⊎◌, Bool, true, false, List, [], ◌∷◌, ◌++◌, Option, Some, None, Result, Ok, Err, length, get_or, drop, IfOk}
use Rattle.std.specs.Borrow.{Bor}
use Rattle.refusal.specs.Outcome.{accepted, refused, refusal}
use Rattle.refusal.specs.Table.{told, outcome_of}
use Rattle.refusal.specs.declared.Refusal.{Refusal}
use Rattle.grid.specs.declared.Grid.{Grid}
use Rattle.grid.specs.LossMap.{LeavesMap, EntriesWritten}
use Rattle.grid.specs.Map.{valid_map}
use Rattle.listing_lines.specs.Lines.{Line, open_line, lines}
use Rattle.listing_lines.specs.declared.Row.{Row}
use Rattle.load.specs.Rows.{row_at, first_run, last_run, in_first_run, in_later_run, follows, row_of, rows_after}
use Rattle.load.specs.Load.{rows_of, whole_runs, entries_check, load}
use Rattle.load.specs.Runs.{RunsOf, kept_loss}
use Rattle.load.specs.declared.runs.Runs.{Runs}

-- 40, or the text behind the header, where the lines go on
abbrev pub BehindHeader : List ℕ → Result (Bor (List ℕ)) Refusal → Type 0
BehindHeader text (Ok body) =
    (rows_of (lines text) ≡ rows_after [] (length text - length body.now) (lines body.now)) × (length body.now < length text)
BehindHeader text (Err x) = rows_of (lines text) ≡ refused (told x)

-- the first line of a text says this row, and this text follows it
pub record RowFirst (text : List ℕ) (row : Row) (later : List ℕ) : Type 0 where
  pub line : Line
  pub first : lines text ≡ line ∷ lines later
  pub says : row_of line ≡ Some row
  pub long : length text ≡ length line.bytes + 1 + length later

-- it says none
pub record NoRowFirst (text : List ℕ) : Type 0 where
  pub line : Line
  pub later : List Line
  pub first : lines text ≡ line ∷ later
  pub says : row_of line ≡ None

-- the row of the first line, or 41 at this offset
abbrev pub FirstRow : (text : List ℕ) (at : ℕ) → Result (Row × Bor (List ℕ)) Refusal → Type 0
FirstRow text at (Ok (row, later)) = RowFirst text row later.now
FirstRow text at (Err x) = NoRowFirst text × (told x ≡ refusal 41 at)

-- the lines that say these rows
abbrev pub line_at : List Line → ℕ → Line
line_at ls i = get_or ls i (open_line [])

abbrev pub Say : List Line → List Row → Type 0
Say ls rows = (i : ℕ) → i < length rows → row_of (line_at ls i) ≡ Some (row_at rows i)

-- the text from the row a run before the next one on, where there is but one run, or its torques are not all kept
abbrev pub RunBefore : List Line → List Row → List ℕ → Type 0
RunBefore ls rows text = (first_run rows ≡ length rows) ⊎ (64 < first_run rows) → lines text ≡ drop (length rows - first_run rows) ls

-- the next row goes on with the first run
abbrev pub TellsFirstRun : Runs → Row → Bool → Type 0
TellsFirstRun runs next result = (rows : List Row) → RunsOf rows runs → result ≡ in_first_run rows next

-- the next row, which has to have this torque, stands in a later run
abbrev pub TellsLaterRun : Runs → Row → (torque : ℕ) → Bool → Type 0
TellsLaterRun runs next torque result = (rows : List Row) → RunsOf rows runs → 0 < length rows
    → torque ≡ (row_at rows (last_run rows)).torque → result ≡ in_later_run rows next

-- the torque of the first run at its place, where all of them are kept
abbrev pub TorqueKept : Runs → Option ℕ → Type 0
TorqueKept runs (Some torque) = (rows : List Row) → RunsOf rows runs → 0 < length rows → (torque ≡ (row_at rows (last_run rows)).torque) × (first_run rows ≤ 64)
TorqueKept runs None = (rows : List Row) → RunsOf rows runs → 0 < length rows → 64 < first_run rows

-- the torque that the next row of a later run has to have, and the text from the row behind on
abbrev pub TorqueDue : Runs → List ℕ → ℕ × Bor (List ℕ) → Type 0
TorqueDue runs run_before (torque, later) = (ls : List Line) (rows : List Row) → RunsOf rows runs → Say ls rows → 0 < length rows → RunBefore ls rows run_before
    → (torque ≡ (row_at rows (last_run rows)).torque) × (64 < first_run rows → lines later.now ≡ drop (length rows + 1 - first_run rows) ls)

-- no count is larger than that of the rows, to which one can be added
pub record FewRows (runs : Runs) : Type 0 where
  pub rows : runs.row_count < 18446744073709551615
  pub first_run : runs.first_run ≤ runs.row_count
  pub run_count : runs.run_count ≤ runs.row_count
  pub last_run : runs.last_run ≤ runs.row_count

-- the next row is added where it follows, and else not
abbrev pub AddsRow : (old new : Runs) → Row → (run_before : List ℕ) → Option (Bor (List ℕ)) → Type 0
AddsRow old new next run_before (Some later) = (ls : List Line) (rows : List Row) → RunsOf rows old → Say ls rows → RunBefore ls rows run_before
    → (follows rows next ≡ true) × RunsOf (rows ++ (next ∷ [])) new × RunBefore ls (rows ++ (next ∷ [])) later.now
AddsRow old new next run_before None = (ls : List Line) (rows : List Row) → RunsOf rows old → Say ls rows → RunBefore ls rows run_before → follows rows next ≡ false

-- whether the runs are whole, and as many and as long as they may be
abbrev pub TellsWholeRuns : Runs → Bool → Type 0
TellsWholeRuns runs result = (rows : List Row) → RunsOf rows runs → result ≡ whole_runs rows

-- all rows were read, and their losses kept
abbrev pub LossesKept : List Row → List ℕ → Type 0
LossesKept rows losses = (i : ℕ) → i < length losses → i < length rows → get_or losses i 0 ≡ kept_loss (row_at rows i).loss

pub record AllRead (text : List ℕ) (runs : Runs) (losses : List ℕ) : Type 0 where
  pub rows : List Row
  pub read : rows_of (lines text) ≡ accepted rows
  pub counted : RunsOf rows runs
  pub kept : LossesKept rows losses

abbrev pub ReadsRows : (text losses : List ℕ) → Result Runs Refusal → Type 0
ReadsRows text losses (Ok runs) = AllRead text runs losses
ReadsRows text losses (Err x) = rows_of (lines text) ≡ refused (told x)

-- 10 and 11 of the losses, and the lent entries at exit
pub record WritesEntries (losses before after : List ℕ) (r : Result (Unit {0}) Refusal) : Type 0 where
  pub outcome : outcome_of r ≡ entries_check losses (length before)
  pub written : EntriesWritten r after losses before

-- what `load` promises for all texts and all lent entries; and what it loads is a map
pub record Loads (text before after : List ℕ) (r : Result Grid Refusal) : Type 0 where
  pub leaves : LeavesMap (load text (length before)) before after r
  pub map : IfOk r (λ grid. valid_map grid after ≡ true)
