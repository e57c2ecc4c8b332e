-- Document 01, "Component data", tags 4 and 5: how many numbers an axis has.
use Rattle.std.specs.Prelude.{ℕ, ◌≤◌, ◌<◌, ◌≡◌, ◌⊎◌, List, length, take, Option, Some, None}
use Rattle.std.specs.Borrow.{Bor}

-- the first count of an axis's places, where there are two or more and no more than places
pub record CountedNumbers (places : ℕ) (ns : List ℕ) (count : ℕ) (part : List ℕ) : Type 0 where
  pub at_least : 2 ≤ count
  pub at_most : count ≤ places
  pub numbers : part ≡ take count ns
  pub long : length part ≡ count

abbrev pub Counted : (places : ℕ) (ns : List ℕ) (count : ℕ) → Option (Bor (List ℕ)) → Type 0
Counted places ns count None = (count < 2) ⊎ (places < count)
Counted places ns count (Some part) = CountedNumbers places ns count part.now
