-- Document 02, C-16: "Spaces and tabs at both ends of a line are ignored."
use Rattle.std.specs.Prelude.{ℕ, ◌-◌, Bool, ◌||◌, ◌==◌, List, length, take, drop}
use Rattle.std.specs.List.{prefix_len, suffix_len}

-- a space or a tab
abbrev pub is_blank : ℕ → Bool
is_blank byte = byte == 32 || byte == 9

-- a line without the blanks at its start, and without those at its end
abbrev pub without_first_blanks : List ℕ → List ℕ
without_first_blanks line = drop (prefix_len is_blank line) line

abbrev pub without_last_blanks : List ℕ → List ℕ
without_last_blanks line = take (length line - suffix_len is_blank line) line

-- and without both
unfoldable pub trimmed : List ℕ → List ℕ
trimmed line = without_last_blanks (without_first_blanks line)
