-- The laws by which the functions' proofs are found. Assumes nothing.
use Rattle.grid.proofs.Map.{map_facts}
use Rattle.buffer.proofs.Digits.{length_decimal, length_hundredths}
use Rattle.buffer.proofs.Appending.{appended_first, joined_grows}
use Rattle.listing.proofs.Lengths.{length_line, length_listing, length_refusal_line}
use Rattle.listing.proofs.Parts.{row_of_parts}

pub ruleset texts = (length_decimal, length_hundredths, length_line, length_listing, length_refusal_line, joined_grows, row_of_parts, appended_first, map_facts)
