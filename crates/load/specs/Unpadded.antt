-- Document 02, C-16: a text with the blanks at both ends of each line taken away. Every line ends with a line feed.
use Rattle.std.specs.Prelude.{ℕ, List, [], ◌∷◌, ◌++◌}
use Rattle.buffer.specs.Bytes.{bytes}
use Rattle.listing_lines.specs.Lines.{Line, lines}
use Rattle.listing_lines.specs.Blanks.{trimmed}

unfoldable pub unpadded_lines : List Line → List ℕ
unpadded_lines [] = []
unpadded_lines (line ∷ later) = trimmed line.bytes ++ bytes "\n" ++ unpadded_lines later

unfoldable pub unpadded : List ℕ → List ℕ
unpadded text = unpadded_lines (lines text)
