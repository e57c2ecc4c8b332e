-- Cases of document 01, "The map program" and "Refusals", shown of the definitions. Assumes nothing.
use Rattle.grid.specs.Lists.{joined}
use Prim.Native.Nat.{ℕ}
use mathlib.Core.Path.{◌≡◌, refl}
use mathlib.Core.List.{List, [], ◌∷◌}
use Rattle.refusal.specs.Outcome.{Outcome, accepted, refuse, refusal}
use Rattle.grid.specs.declared.Grid.{Grid}
use Rattle.grid.specs.Every.{every}
use Rattle.grid.specs.Axis.{within, rises, first_step, valid_numbers}
use Rattle.grid.specs.Map.{valid_speeds, valid_torques, valid_grid, valid_entries, valid_map}
use Rattle.grid.specs.Parts.{grid_of}
use Rattle.buffer.specs.Bytes.{bytes}
use Rattle.listing.specs.Listing.{header, line, row, rows, listing, refusal_line, listed}
use Rattle.buffer.specs.Digits.{digit_count_by, digit_count, decimal, hundredths}

-- what is computed, and what is expected
data Example : Type 0 where
  text : (computed expected : List ℕ) → Example
  answer : (computed expected : Outcome ℕ) → Example

Hold : List Example → Type 0
Hold [] = Unit
Hold (text computed expected ∷ es) = (computed ≡ expected) × Hold es
Hold (answer computed expected ∷ es) = (computed ≡ expected) × Hold es

-- the map of the listing that document 01 prints
grid : Grid
grid = grid_of (100 ∷ 200 ∷ []) 2 (0 ∷ 1000 ∷ []) 2

entries : List ℕ
entries = 13000 ∷ 15041 ∷ 13000 ∷ 15041 ∷ []

examples : List Example
examples =
    answer (listed grid entries 76) (accepted 76)
    ∷ answer (listed grid entries 75) (refuse 11 76)
    ∷ answer (listed grid (13000 ∷ 15041 ∷ 13000 ∷ []) 76) (refuse 22 0)
    ∷ text (hundredths 0) (bytes "0.00")
    ∷ text (hundredths 5) (bytes "0.05")
    ∷ text (hundredths 100) (bytes "1.00")
    ∷ text (hundredths 10000000) (bytes "100000.00")
    ∷ text (refusal_line (refusal 2 0)) (bytes "refused 2 at 0\n")
    ∷ text (refusal_line (refusal 11 18446744073709551615)) (bytes "refused 11 at 18446744073709551615\n")
    ∷ []

hold : Hold examples
unfolding Hold examples grid entries digit_count_by digit_count decimal hundredths header line row rows listing refusal_line valid_map valid_grid valid_entries valid_speeds valid_torques valid_numbers first_step within rises every joined
hold = (refl, (refl, (refl, (refl, (refl, (refl, (refl, (refl, (refl, tt)))))))))
