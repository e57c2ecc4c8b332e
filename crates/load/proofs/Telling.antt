-- What the first line of a text says of its rows. Assumes nothing.
use Rattle.std.proofs.Common.{◌≡◌, ◌+◌, ◌<◌, ℕ, true, false, refl, arith, List, [], ◌∷◌, length, Some, None, bytes_eq}
use Rattle.refusal.specs.Outcome.{refuse}
use Rattle.listing.specs.Listing.{header}
use Rattle.listing_lines.specs.Lines.{ended_line, open_line, lines}
use Rattle.listing_lines.specs.Blanks.{trimmed}
use Rattle.listing_lines.specs.Form.{row_in}
use Rattle.listing_lines.specs.Answers.{FirstLine}
use Rattle.listing_lines.specs.declared.Row.{Row}
use Rattle.load.specs.Rows.{row_of, rows_after}
use Rattle.load.specs.Load.{rows_of}
use Rattle.load.specs.Answers.{RowFirst, NoRowFirst}

-- ---- the header
module _ (text line later : List ℕ) (first : lines text ≡ ended_line line ∷ lines later) where
  pub header_found : bytes_eq (trimmed line) header ≡ true → rows_of (lines text) ≡ rows_after [] (length line + 1) (lines later)
  unfolding rows_of
  header_found same = rw (first, rows_of, same) refl

  pub header_wrong : bytes_eq (trimmed line) header ≡ false → rows_of (lines text) ≡ refuse 40 0
  unfolding rows_of
  header_wrong other = rw (first, rows_of, other) refl

pub header_open : (text : List ℕ) → FirstLine text None → rows_of (lines text) ≡ refuse 40 0
unfolding rows_of lines
header_open [] none = refl
header_open (byte ∷ bytes) none = rw none refl

-- ---- a row
module _ (text line later : List ℕ) (first : lines text ≡ ended_line line ∷ lines later) (long : length text ≡ length line + 1 + length later) where
  pub row_first : (row : Row) → row_in (trimmed line) ≡ Some row → RowFirst text row later
  unfolding row_of
  row_first row says = record { line = ended_line line; first = first; says = says; long = long }

  pub no_row_first : row_in (trimmed line) ≡ None → NoRowFirst text
  unfolding row_of
  no_row_first says = record { line = ended_line line; later = lines later; first = first; says = says }

pub open_row_first : (text : List ℕ) → 0 < length text → FirstLine text None → NoRowFirst text
unfolding row_of
open_row_first [] some none = absurd (omega arith)
open_row_first (byte ∷ bytes) some none = record { line = open_line (byte ∷ bytes); later = []; first = none; says = refl }
