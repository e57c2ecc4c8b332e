-- What the code's answers say of the lent text.
use Rattle.std.specs.Prelude.{ℕ, ◌+◌, ◌≡◌, ⊤, List, [], ◌∷◌, Option, Some, None, length}
use Rattle.std.specs.Borrow.{Bor}
use Rattle.listing_lines.specs.Lines.{ended_line, open_line, lines}
use Rattle.listing_lines.specs.Form.{Numbered}

-- the first line and the text behind it, where a line feed ends it
abbrev pub FirstLine : List ℕ → Option (Bor (List ℕ) × Bor (List ℕ)) → Type 0
FirstLine text (Some (line, later)) =
    (lines text ≡ ended_line line.now ∷ lines later.now) × (length text ≡ length line.now + 1 + length later.now)
FirstLine [] None = ⊤
FirstLine (byte ∷ bytes) None = lines (byte ∷ bytes) ≡ open_line (byte ∷ bytes) ∷ []

-- a number and what follows it
abbrev pub numbered : Option (ℕ × Bor (List ℕ)) → Option Numbered
numbered (Some (number, rest)) = Some (record { number = number; rest = rest.now })
numbered None = None
