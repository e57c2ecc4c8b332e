-- Document 02, C-16: the form of a row as a law. A text says a row exactly where it is what the listing prints for it, and its numbers have no more digits than they may.
use Rattle.std.specs.Prelude.{ℕ, ◌-◌, ◌<◌, ◌≡◌, ◌⊎◌, true, false, List, [], ◌++◌, All, length, get_or}
use Rattle.buffer.specs.Bytes.{bytes}
use Rattle.listing.specs.Listing.{line}
use Rattle.listing_lines.specs.Blanks.{is_blank}
use Rattle.listing_lines.specs.declared.Row.{Row}

-- "1 to 9 digits", and two more for the hundredths
pub record FewDigits (row : Row) : Type 0 where
  pub speed : row.speed < 1000000000
  pub torque : row.torque < 1000000000
  pub loss : row.loss < 100000000000

-- the text is the row's line as the listing prints it, but for its line feed
pub record RowText (text : List ℕ) (row : Row) : Type 0 where
  pub digits : FewDigits row
  pub printed : text ++ bytes "\n" ≡ line row.speed row.torque row.loss

-- "that part of the caller's text": the line is blanks, the part and blanks, and the part neither begins nor ends with a blank
pub record TrimmedPart (line part : List ℕ) : Type 0 where
  pub front : List ℕ
  pub back : List ℕ
  pub whole : line ≡ front ++ part ++ back
  pub front_blank : All (λ byte. is_blank byte ≡ true) front
  pub back_blank : All (λ byte. is_blank byte ≡ true) back
  pub first : part ≡ [] ⊎ (is_blank (get_or part 0 0) ≡ false)
  pub last : part ≡ [] ⊎ (is_blank (get_or part (length part - 1) 0) ≡ false)
