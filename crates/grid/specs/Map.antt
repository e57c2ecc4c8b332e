-- Document 01, "Refusals", row 22: what is a map. An axis has as many numbers as its count says; what stands past them means nothing.
use Rattle.std.specs.Prelude.{ℕ, ◌*◌, Bool, ◌&&◌, List, leb, length, get_or, take}
use Rattle.grid.specs.Every.{every}
use Rattle.grid.specs.Axis.{◌to◌, first_step, valid_numbers}
use Rattle.grid.specs.declared.Axis.{Axis}
use Rattle.grid.specs.declared.Grid.{Grid}

-- the numbers of an axis
abbrev pub counted_numbers : {places : ℕ} → Axis places → List ℕ
counted_numbers axis = take axis.count axis.numbers

-- tag 4: 2 to 32 speeds, 1 to 3,000 rpm each, rising
unfoldable pub valid_speeds : List ℕ → ℕ → Bool
valid_speeds ns count = valid_numbers 32 (1 to 3000) ns count

-- tag 5: 2 to 64 torques, 0 to 50,000 Nm each, rising, with the rule of the first step
unfoldable pub valid_torques : List ℕ → ℕ → Bool
valid_torques ns count = valid_numbers 64 (0 to 50000) ns count && first_step ns

-- both axes keep their rules: what the nearest point asks
unfoldable pub valid_grid : Grid → Bool
valid_grid grid =
    valid_speeds grid.speeds.numbers grid.speeds.count && valid_torques grid.torques.numbers grid.torques.count

-- there are so many entries, and none of the first ones is above 10,000,000 hundredths of Nm
unfoldable pub valid_entries : List ℕ → ℕ → Bool
valid_entries entries count = leb count (length entries) && every (λ i. leb (get_or entries i 0) 10000000) count

-- what is lent is a map
unfoldable pub valid_map : Grid → List ℕ → Bool
valid_map grid entries = valid_grid grid && valid_entries entries (grid.speeds.count * grid.torques.count)
