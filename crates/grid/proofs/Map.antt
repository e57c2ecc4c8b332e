-- The tests of a grid and of a map hold exactly where their rules are kept. Assumes nothing.
use Prim.Native.Nat.{ℕ, ◌*◌}
use mathlib.Core.Path.{◌≡◌, refl}
use mathlib.Core.Bool.{Bool, true, false, ◌&&◌}
use mathlib.Core.List.{List}
use borrow.Author.Tests.{leb-true, le-leb}
use lib.Dec.{leb}
use lib.ListN.{length, get_or}
use Rattle.grid.specs.Every.{every}
use Rattle.grid.specs.Axis.{◌to◌, first_step, valid_numbers}
use Rattle.grid.specs.Rules.{AxisRules, FirstStep, GridRules, MapRules}
use Rattle.grid.specs.Map.{valid_speeds, valid_torques, valid_grid, valid_entries, valid_map}
use Rattle.grid.specs.declared.Grid.{Grid}
use Rattle.grid.proofs.Every.{and_fst, and_snd, every_at, every_of}
use Rattle.grid.proofs.AxisLaws.{axis_facts, axis_of}

pub speed_facts : (ns : List ℕ) (count : ℕ) → valid_speeds ns count ≡ true → AxisRules (1 to 3000) 32 ns count
unfolding valid_speeds
speed_facts ns count e = axis_facts (1 to 3000) 32 ns count e

speed_of : (ns : List ℕ) (count : ℕ) → AxisRules (1 to 3000) 32 ns count → valid_speeds ns count ≡ true
unfolding valid_speeds
speed_of ns count f = axis_of (1 to 3000) 32 ns count f

torque_facts : (ns : List ℕ) (count : ℕ) → valid_torques ns count ≡ true → AxisRules (0 to 50000) 64 ns count
unfolding valid_torques
torque_facts ns count e = axis_facts (0 to 50000) 64 ns count (and_fst (valid_numbers 64 (0 to 50000) ns count) (first_step ns) e)

torque_step : (ns : List ℕ) (count : ℕ) → valid_torques ns count ≡ true → FirstStep ns
unfolding valid_torques first_step
torque_step ns count e = leb-true _ _ (and_snd (valid_numbers 64 (0 to 50000) ns count) (first_step ns) e)

torque_of : (ns : List ℕ) (count : ℕ) → AxisRules (0 to 50000) 64 ns count → FirstStep ns → valid_torques ns count ≡ true
unfolding valid_torques first_step
torque_of ns count f s = rw (axis_of (0 to 50000) 64 ns count f) (le-leb _ _ s)

pub grid_facts : (grid : Grid) → valid_grid grid ≡ true → GridRules grid
unfolding valid_grid
grid_facts grid e =
    let ts = grid.torques in
    let a = valid_speeds grid.speeds.numbers grid.speeds.count in
    let b = valid_torques ts.numbers ts.count in
    record {
      speeds = speed_facts _ _ (and_fst a b e);
      torques = torque_facts _ _ (and_snd a b e);
      step = torque_step _ ts.count (and_snd a b e);
    }

pub grid_of_lem : (grid : Grid) → GridRules grid → valid_grid grid ≡ true
unfolding valid_grid
grid_of_lem grid f = rw (speed_of _ _ f.speeds) (torque_of _ _ f.torques f.step)

pub map_facts : (grid : Grid) (entries : List ℕ) → valid_map grid entries ≡ true → MapRules grid entries
unfolding valid_map valid_entries
map_facts grid entries e =
    let n = grid.speeds.count * grid.torques.count in
    let a = every (λ i. leb (get_or entries i 0) 10000000) n in
    let b = leb n (length entries) && a in
    let g = and_snd (valid_grid grid) b e in
    record {
      axes = grid_facts grid (and_fst (valid_grid grid) b e);
      enough = leb-true _ _ (and_fst (leb n (length entries)) a g);
      small = λ k l. leb-true _ _ (every_at (λ i. leb (get_or entries i 0) 10000000) n (and_snd (leb n (length entries)) a g) k l);
    }

pub map_of_lem : (grid : Grid) (entries : List ℕ) → MapRules grid entries → valid_map grid entries ≡ true
unfolding valid_map valid_entries
map_of_lem grid entries f = rw (grid_of_lem grid f.axes, le-leb _ _ f.enough) (every_of _ _ (λ k l. le-leb _ _ (f.small k l)))

-- what breaks a rule fails the test
pub map_not : (grid : Grid) (entries : List ℕ) → (MapRules grid entries → ⊥) → valid_map grid entries ≡ false
map_not grid entries broken = go (valid_map grid entries) refl
  where
    go : (b : Bool) → valid_map grid entries ≡ b → valid_map grid entries ≡ false
    go true e = absurd (broken (map_facts grid entries e))
    go false e = e

pub grid_not : (grid : Grid) → (GridRules grid → ⊥) → valid_grid grid ≡ false
grid_not grid broken = go (valid_grid grid) refl
  where
    go : (b : Bool) → valid_grid grid ≡ b → valid_grid grid ≡ false
    go true e = absurd (broken (grid_facts grid e))
    go false e = e
