-- Document 02, C-16: "A line ends with one line feed, the last too."
use Rattle.std.specs.Prelude.{ℕ, Bool, true, false, ◌==◌, if◌then◌else◌, List, [], ◌∷◌}

-- a line of a text, and whether a line feed ends it, which is no part of it: what follows the last line feed is a line without one
pub record Line : Type 0 where
  pub bytes : List ℕ
  pub ended : Bool

-- a line that its line feed ends
abbrev pub ended_line : List ℕ → Line
ended_line bytes = record { bytes = bytes; ended = true }

-- a line without its line feed
abbrev pub open_line : List ℕ → Line
open_line bytes = record { bytes = bytes; ended = false }

-- one more byte at the front of the first line
unfoldable pub with_byte : ℕ → List Line → List Line
with_byte byte [] = open_line (byte ∷ []) ∷ []
with_byte byte (line ∷ later) = record { bytes = byte ∷ line.bytes; ended = line.ended } ∷ later

-- the lines of a text; 10 is the line feed
unfoldable pub lines : List ℕ → List Line
lines [] = []
lines (byte ∷ later) = if byte == 10 then ended_line [] ∷ lines later else with_byte byte (lines later)
