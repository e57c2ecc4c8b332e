-- What `axle_build` promises for all data and all lent entries, demand 3 among it, and what `axle_load` promises for all texts.
use Rattle.std.specs.Prelude.{ℕ, ◌≤◌, ◌≡◌, true, List, [], length, Option, None, Result, Ok, Err}
use Rattle.refusal.specs.Outcome.{Outcome, accepted, refused}
use Rattle.refusal.specs.Table.{number, index}
use Rattle.refusal.specs.Table as table
use Rattle.refusal.specs.declared.Refusal.{Refusal}
use Rattle.grid.specs.Parts.{grid_of}
use Rattle.grid.specs.Map.{counted_numbers, valid_map}
use Rattle.grid.specs.declared.Grid.{Grid}
use Rattle.grid.specs.LossMap.{LossMap, content}
use Rattle.map.specs.Build.{build}
use Rattle.load.specs.Load.{load}
use Rattle.accuracy.specs.Demand.{Accurate}
use Rattle.axle.specs.Interface.{has_index, index_or_zero, index_of}
use Rattle.axle.specs.declared.AxleBuilt.{AxleBuilt}
use Rattle.axle.specs.declared.AxleAxes.{AxleAxes}

-- the grid that a caller hands on to the other functions
abbrev pub grid_in : AxleBuilt → Grid
grid_in r = grid_of r.speeds r.speed_count r.torques r.torque_count

abbrev pub loaded_grid : AxleAxes → Grid
loaded_grid r = grid_of r.speeds r.speed_count r.torques r.torque_count

-- the answer of a call that makes a map: its axes, or the refusal with counts of 0, whose numbers mean nothing
abbrev pub AxesOf : Result Grid Refusal → (refusal place : ℕ) → Grid → Type 0
AxesOf (Ok grid) refusal place axes =
    (refusal ≡ 0) × (place ≡ 0) × (axes ≡ grid_of grid.speeds.numbers grid.speeds.count grid.torques.numbers grid.torques.count)
AxesOf (Err x) refusal place axes =
    (refusal ≡ number x) × (place ≡ table.place x) × (axes.speeds.count ≡ 0) × (axes.torques.count ≡ 0)

-- of a build, and the index of its refusal
abbrev pub BuiltOf : Result Grid Refusal → AxleBuilt → Type 0
BuiltOf answer b =
    AxesOf answer b.refusal b.place (grid_in b)
    × (b.has_index ≡ has_index (index_of answer)) × (b.index ≡ index_or_zero (index_of answer))

-- and of a load, whose refusals have none
abbrev pub LoadedOf : Result Grid Refusal → AxleAxes → Type 0
LoadedOf answer b = AxesOf answer b.refusal b.place (loaded_grid b)

-- the number and the place of the refusal, 0 where there is a map; and its index, where it has one
abbrev pub refusal_in : Outcome LossMap → ℕ
refusal_in (accepted m) = 0
refusal_in (refused t) = t.number

abbrev pub place_in : Outcome LossMap → ℕ
place_in (accepted m) = 0
place_in (refused t) = t.place

abbrev pub index_in : Outcome LossMap → Option ℕ
index_in (accepted m) = None
index_in (refused t) = t.index

-- the axes of the map, none where there is no map
abbrev pub speeds_in : Outcome LossMap → List ℕ
speeds_in (accepted m) = m.speeds
speeds_in (refused t) = []

abbrev pub torques_in : Outcome LossMap → List ℕ
torques_in (accepted m) = m.torques
torques_in (refused t) = []

-- the answer of a call that makes a map, and the lent entries at exit
pub record MapForC (o : Outcome LossMap) (before after : List ℕ) (refusal place : ℕ) (axes : Grid) : Type 0 where
  pub refusal_is : refusal ≡ refusal_in o
  pub place_is : place ≡ place_in o
  pub speeds : counted_numbers axes.speeds ≡ speeds_in o
  pub torques : counted_numbers axes.torques ≡ torques_in o
  pub counts : (axes.speeds.count ≤ 32) × (axes.torques.count ≤ 64)
  -- on a refusal as they were
  pub entries : after ≡ content o before

-- a build, with the index of its refusal, and demand 3 of it
pub record BuildsForC (bytes before after : List ℕ) (r : AxleBuilt) : Type 0 where
  pub answer : MapForC (build bytes (length before)) before after r.refusal r.place (grid_in r)
  pub has_index : r.has_index ≡ has_index (index_in (build bytes (length before)))
  pub index : r.index ≡ index_or_zero (index_in (build bytes (length before)))
  pub accurate : r.refusal ≡ 0 → Accurate bytes (grid_in r) after

-- a listing that is loaded, and that it is a map: demand 3 does not speak of it
pub record LoadsForC (text before after : List ℕ) (r : AxleAxes) : Type 0 where
  pub answer : MapForC (load text (length before)) before after r.refusal r.place (loaded_grid r)
  pub map : r.refusal ≡ 0 → valid_map (loaded_grid r) after ≡ true
