-- Document 01, "Component data", tags 4 and 5: the numbers of an axis. One rule serves both axes.
use Rattle.std.specs.Prelude.{ℕ, ◌-◌, Bool, ◌&&◌, ◌||◌, List, leb, ltb, eqb, get_or}
use Rattle.refusal.specs.Outcome.{Outcome, ◌>>=◌, require, first_refusal}
use Rattle.grid.specs.Every.{every}
use Rattle.grid.specs.declared.Range.{Range}

infix 70 ◌to◌
-- a range, both ends in it: `1 to 3000`
abbrev pub ◌to◌ : ℕ → ℕ → Range
lowest to highest = record { lowest = lowest; highest = highest }

-- a number is in its range
unfoldable pub within : Range → ℕ → Bool
within range n = leb range.lowest n && leb n range.highest

-- "strictly rising": number i is above the one before; the first has none before it
unfoldable pub rises : List ℕ → ℕ → Bool
rises ns i = eqb i 0 || ltb (get_or ns (i - 1) 0) (get_or ns i 0)

-- "at each, 4 before 5": number i is in its range and above the one before. The place is the number's index.
unfoldable pub axis_number : Range → List ℕ → ℕ → Outcome (Unit {0})
axis_number range ns i = do
  _ ← require (within range (get_or ns i 0)) 4 i
  require (rises ns i) 5 i

-- "numbers left to right": the first refusal among the first count numbers
unfoldable pub axis_numbers : Range → List ℕ → ℕ → Outcome (Unit {0})
axis_numbers range ns count = first_refusal (axis_number range ns) 0 count

-- tag 5: the first torque is not above the step from it to the second
unfoldable pub first_step : List ℕ → Bool
first_step ns = leb (get_or ns 0 0) (get_or ns 1 0 - get_or ns 0 0)

-- the same rule as one test: 2 to most numbers, each in its range and above the one before
unfoldable pub valid_numbers : ℕ → Range → List ℕ → ℕ → Bool
valid_numbers most range ns count =
    leb 2 count && (leb count most && every (λ i. within range (get_or ns i 0) && rises ns i) count)
