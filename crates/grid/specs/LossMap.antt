-- A loss map, and what a call that makes one leaves: its axes in the answer, its entries in the lent slice.
use Rattle.std.specs.Prelude.{ℕ, ◌*◌, ◌≤◌, ◌≡◌, List, length, take, Result, Ok, Err, IfOk}
use Rattle.refusal.specs.Outcome.{Outcome, accepted, refused}
use Rattle.refusal.specs.Table.{outcome_as}
use Rattle.refusal.specs.declared.Refusal.{Refusal}
use Rattle.grid.specs.Lists.{overwritten}
use Rattle.grid.specs.Map.{counted_numbers}
use Rattle.grid.specs.declared.Grid.{Grid}

-- speeds in rpm, torques in Nm, and the entries, in hundredths of Nm, of one speed after the other
pub record LossMap : Type 0 where
  pub speeds : List ℕ
  pub torques : List ℕ
  pub entries : List ℕ

-- the lent entries at exit: as they were where there is no map, else with the entries of the map in place of the first ones
abbrev pub content : Outcome LossMap → List ℕ → List ℕ
content (accepted m) lent = overwritten m.entries lent
content (refused t) lent = lent

-- a refusal leaves what was there; else the new entries stand in place of the first ones
abbrev pub EntriesWritten : Result (Unit {0}) Refusal → (after new before : List ℕ) → Type 0
EntriesWritten (Ok u) after new before = after ≡ overwritten new before
EntriesWritten (Err x) after new before = after ≡ before

-- the map that is left: the axes, and as many of the lent entries as there are points
abbrev pub map_left : List ℕ → Grid → LossMap
map_left entries grid = record {
  speeds = counted_numbers grid.speeds;
  torques = counted_numbers grid.torques;
  entries = take (grid.speeds.count * grid.torques.count) entries;
}

-- no axis has more numbers than it has places
pub record CountsWithin (grid : Grid) : Type 0 where
  pub speeds : grid.speeds.count ≤ 32
  pub torques : grid.torques.count ≤ 64
  pub speeds_length : length (counted_numbers grid.speeds) ≡ grid.speeds.count
  pub torques_length : length (counted_numbers grid.torques) ≡ grid.torques.count

-- what comes of the call, for all lent entries: the answer, the axes, and the whole content of the lent entries at exit
pub record LeavesMap (o : Outcome LossMap) (before after : List ℕ) (r : Result Grid Refusal) : Type 0 where
  pub outcome : outcome_as (map_left after) r ≡ o
  pub written : after ≡ content o before
  pub counts : IfOk r CountsWithin
