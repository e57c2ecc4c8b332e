-- What the code's answers say in document 01's terms.
use Rattle.std.specs.Prelude.{ℕ, ◌*◌, ◌≡◌, List, length, get_or, take, drop, Result}
use Rattle.refusal.specs.Table.{outcome_as}
use Rattle.refusal.specs.declared.Refusal.{Refusal}
use Rattle.grid.specs.Lists.{tabulate}
use Rattle.grid.specs.LossMap.{content, map_left, LeavesMap}
use Rattle.grid.specs.declared.Grid.{Grid}
use Rattle.component.specs.Answers.{component_of}
use Rattle.component.specs.declared.Component.{Component}
use Rattle.loss.specs.Standard.{standard_entry}
use Rattle.map.specs.Build.{map_of, build}

-- ---- rows that are copied

-- the row of a speed: so many entries from a place that goes on by a step for each speed
unfoldable pub stretch : List ℕ → (step size speed : ℕ) → List ℕ
stretch from step size speed = take size (drop (speed * step) from)

-- a standard entry, by the index of its torque
unfoldable pub standard_at : (line ratio : ℕ) → List ℕ → ℕ → ℕ
standard_at line ratio torques torque = standard_entry line ratio (get_or torques torque 0)

unfoldable pub standard_row : (line ratio : ℕ) → List ℕ → ℕ → List ℕ
standard_row line ratio torques speed = tabulate (standard_at line ratio torques) (length torques)

-- ---- the build

-- the answer and the lent entries, once the data was read
pub record BuildsEntries (before after : List ℕ) (c : Component) (r : Result (Unit {0}) Refusal) : Type 0 where
  pub outcome : outcome_as (λ u. map_left after c.grid) r ≡ map_of (component_of c) (length before)
  pub written : after ≡ content (map_of (component_of c) (length before)) before

-- what `build` promises for all data and all lent entries
abbrev pub Builds : (bytes before after : List ℕ) → Result Grid Refusal → Type 0
Builds bytes before after r = LeavesMap (build bytes (length before)) before after r
