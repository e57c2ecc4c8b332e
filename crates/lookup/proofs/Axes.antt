-- Axes as lists of numbers, and the neighbours of a value on one. Assumes nothing.
use Rattle.std.proofs.Common.{◌≡◌, ℕ, zero, suc, ◌+◌, ◌-◌, ◌*◌, ◌/◌, ◌≤◌, ◌<◌, Bool, true, leb, refl, List, length, get_or, take, ◌⊎◌, inl, inr, arith}
use Rattle.std.proofs.lemmas.List.{get_or_past, get_or-take, length-take-le}
use native.Mathlib.Omega.{by_contra}
use native.Mathlib.Decide.{dec_lt, dec_le}
use native.Mathlib.Nat.{le_of_lt, lt_of_lt_of_le, mul-le-mul_left, div-mul-le_self, lt-div-mul-add}
use borrow.Author.Tests.{leb-true, leb-false, le-leb, lt-leb}
use Rattle.grid.specs.Map.{counted_numbers, valid_grid, valid_map}
use Rattle.grid.specs.declared.Grid.{Grid}
use Rattle.grid.specs.declared.Range.{Range}
use Rattle.grid.specs.Rules.{AxisRules}
use Rattle.grid.proofs.Map.{grid_facts, grid_of_lem, map_facts}
use Rattle.cell.specs.Cell.{Within, Has}
use Rattle.cell.specs.declared.Point.{Point}
use Rattle.lookup.specs.Loss.{last_up_to, neighbour, cell_of}
use Rattle.lookup.proofs.Search.{IsLast, last_found, last_unique}

-- at least two numbers, each above the one before
pub record Rising (ns : List ℕ) : Type 0 where
  pub two : 2 ≤ length ns
  pub rises : (k : ℕ) → k + 1 < length ns → get_or ns k 0 < get_or ns (k + 1) 0

-- both axes of a map, with the rule of the first step
pub record RisingAxes (ss ts : List ℕ) : Type 0 where
  pub speeds : Rising ss
  pub torques : Rising ts
  pub step : get_or ts 0 0 ≤ get_or ts 1 0 - get_or ts 0 0

-- ---- the axes of a valid grid

module _ (range : Range) (most : ℕ) (ns : List ℕ) (count : ℕ) (f : AxisRules range most ns count) where
  -- the numbers are all there, since past the end there is nothing that rises
  all_there : count ≤ length ns
  all_there =
      by_contra count (length ns)
      (λ l. omega (arith, f.at_least, f.rising (count - 2) (omega (arith, f.at_least)), get_or_past ns (count - 2 + 1) 0 (omega (arith, f.at_least))))

  pub count_taken : length (take count ns) ≡ count
  count_taken = length-take-le count ns all_there

  rising : Rising (take count ns)
  rising = record {
    two = omega (arith, f.at_least, count_taken);
    rises = λ k l.
        let h : k + 1 < count = omega (arith, count_taken) in
        let g : k < count = omega arith in
        rw (get_or-take count ns k 0 g, get_or-take count ns (k + 1) 0 h) (f.rising k h);
  }

pub grid_axes : (grid : Grid) → valid_grid grid ≡ true → RisingAxes (counted_numbers grid.speeds) (counted_numbers grid.torques)
grid_axes grid e =
    let f = grid_facts grid e in
    let n = grid.torques.count in
    let h : 0 < n = omega (arith, f.torques.at_least) in
    let g : 1 < n = omega (arith, f.torques.at_least) in
    record {
      speeds = rising _ _ _ _ f.speeds;
      torques = rising _ _ _ _ f.torques;
      step = rw (get_or-take n grid.torques.numbers 0 0 h, get_or-take n grid.torques.numbers 1 0 g) f.step;
    }

-- the grid of a map is one; the first part shows `grind` where this applies
pub map_grid : (grid : Grid) (entries : List ℕ) → valid_map grid entries ≡ true → (valid_map grid entries ≡ true) × (valid_grid grid ≡ true)
map_grid grid entries e = (e, grid_of_lem grid (map_facts grid entries e).axes)

pub map_axes : (grid : Grid) (entries : List ℕ) → valid_map grid entries ≡ true → RisingAxes (counted_numbers grid.speeds) (counted_numbers grid.torques)
map_axes grid entries e = grid_axes grid (map_grid grid entries e).1

-- how many numbers there are; the first part shows `grind` where this applies
pub grid_counts : (grid : Grid) → valid_grid grid ≡ true →
    (valid_grid grid ≡ true) × (2 ≤ grid.speeds.count) × (grid.speeds.count ≤ 32) × (length (counted_numbers grid.speeds) ≡ grid.speeds.count)
    × (2 ≤ grid.torques.count) × (grid.torques.count ≤ 64) × (length (counted_numbers grid.torques) ≡ grid.torques.count)
grid_counts grid e =
    let f = grid_facts grid e in
    (e, f.speeds.at_least, f.speeds.at_most, count_taken _ _ _ _ f.speeds, f.torques.at_least, f.torques.at_most, count_taken _ _ _ _ f.torques)

-- what the bounds of a map's arrays follow from
pub ruleset counts = (grid_counts, map_grid)

-- ---- the order of the numbers

pub rise_lt : (ns : List ℕ) → Rising ns → (i j : ℕ) → i < j → j < length ns → get_or ns i 0 < get_or ns j 0
rise_lt ns r i zero a b = absurd (omega arith)
rise_lt ns r i (suc j) a b = grind (arith, r.rises j, rise_lt ns r i j)

pub rise_le : (ns : List ℕ) → Rising ns → (i j : ℕ) → i ≤ j → j < length ns → get_or ns i 0 ≤ get_or ns j 0
rise_le ns r i j a b = grind (arith, rise_lt ns r i j)

-- ---- the neighbours of a value

module _ (ns : List ℕ) (scale v : ℕ) where
  abbrev test : ℕ → Bool
  test k = leb (scale * get_or ns k 0) v

  -- by the numbers: the last at or below the value, but for the last of all
  pub neighbour_is : (i : ℕ) → i + 1 < length ns → (0 < i → scale * get_or ns i 0 ≤ v) → ((k : ℕ) → i < k → k + 1 < length ns → v < scale * get_or ns k 0) → neighbour ns scale v ≡ i
  unfolding neighbour
  neighbour_is i l t f =
      last_unique test (length ns - 2) _ i (last_found _ _)
      (record { at_most = omega arith; holds = λ h. le-leb _ _ (t h); fails = λ k a b. lt-leb _ _ (f k a (omega arith)) })

  module _ (r : Rising ns) where
    found : IsLast test (length ns - 2) (neighbour ns scale v)
    unfolding neighbour
    found = last_found test (length ns - 2)

    pub neighbour_in : neighbour ns scale v + 1 < length ns
    neighbour_in = omega (arith, found.at_most, r.two)

    -- but for the first it is at or below the value, and each after it but the last is above
    pub neighbour_at_most : 0 < neighbour ns scale v → scale * get_or ns (neighbour ns scale v) 0 ≤ v
    neighbour_at_most h = leb-true _ _ (found.holds h)

    pub neighbour_above : (k : ℕ) → neighbour ns scale v < k → k + 1 < length ns → v < scale * get_or ns k 0
    neighbour_above k h l = leb-false _ _ (found.fails k h (omega arith))

    pub neighbour_low : scale * get_or ns 0 0 ≤ v → scale * get_or ns (neighbour ns scale v) 0 ≤ v
    neighbour_low h = go (neighbour ns scale v) found.holds
      where
        go : (i : ℕ) → (0 < i → test i ≡ true) → scale * get_or ns i 0 ≤ v
        go zero t = h
        go (suc i) t = leb-true _ _ (t (omega arith))

    pub neighbour_high : v ≤ scale * get_or ns (length ns - 1) 0 → v ≤ scale * get_or ns (neighbour ns scale v + 1) 0
    neighbour_high h = go (neighbour ns scale v) found (dec_lt (neighbour ns scale v) (length ns - 2))
      where
        go : (i : ℕ) → IsLast test (length ns - 2) i → Dec (i < length ns - 2) → v ≤ scale * get_or ns (i + 1) 0
        go i f (yes l) = le_of_lt (leb-false _ _ (f.fails (i + 1) (omega arith) (omega arith)))
        go i f (no l) = let e : i + 1 ≡ length ns - 1 = omega (arith, f.at_most, r.two) in rw e h

    pub neighbour_first : v < scale * get_or ns 0 0 → neighbour ns scale v ≡ 0
    neighbour_first h =
        neighbour_is 0 (omega (arith, r.two)) (λ l. absurd (omega arith))
        (λ k a b. lt_of_lt_of_le h (mul-le-mul_left scale (rise_le ns r 0 k (omega arith) (omega arith))))

-- whole numbers times a scale are at or below v where they are at or below its quotient
last_same : (s t : ℕ → Bool) → ((k : ℕ) → s k ≡ t k) → (n : ℕ) → last_up_to s n ≡ last_up_to t n
unfolding last_up_to
last_same s t e zero = refl
last_same s t e (suc n) = rw (e (suc n), last_same s t e n)

at_or_below : (scale v n : ℕ) → 0 < scale → leb (scale * n) v ≡ leb (1 * n) (v / scale)
at_or_below scale v n p = go (dec_le n (v / scale))
  where
    floor : (v / scale) * scale ≤ v
    floor = div-mul-le_self v scale

    next : v < (v / scale) * scale + scale
    next = lt-div-mul-add {a = v} p

    go : Dec (n ≤ v / scale) → leb (scale * n) v ≡ leb (1 * n) (v / scale)
    go (yes l) =
        let m = mul-le-mul_left scale l in
        let a : scale * n ≤ v = omega (arith, m, floor) in
        let b : 1 * n ≤ v / scale = omega arith in
        rw (le-leb _ _ a, le-leb _ _ b)
    go (no l) =
        let above : v / scale + 1 ≤ n = omega arith in
        let m = mul-le-mul_left scale above in
        let a : v < scale * n = omega (arith, m, next) in
        let b : v / scale < 1 * n = omega arith in
        rw (lt-leb _ _ a, lt-leb _ _ b)

pub neighbour_unscaled : (ns : List ℕ) (scale v : ℕ) → 0 < scale → neighbour ns scale v ≡ neighbour ns 1 (v / scale)
unfolding neighbour
neighbour_unscaled ns scale v p = last_same _ _ (λ k. at_or_below scale v (get_or ns k 0) p) (length ns - 2)

-- ---- the cell of a point

-- within the limits there is always a cell that has the point
pub cell_has : (speeds torques : List ℕ) → RisingAxes speeds torques → (p : Point) → Within speeds torques p → Has speeds torques p (cell_of speeds torques p)
unfolding cell_of
cell_has speeds torques axes p w = record {
  speed_in = neighbour_in speeds 10 p.speed axes.speeds;
  torque_in = neighbour_in torques 100 p.torque axes.torques;
  from = neighbour_low speeds 10 p.speed axes.speeds w.from;
  upto = neighbour_high speeds 10 p.speed axes.speeds w.upto;
  bottom = go (dec_le (100 * get_or torques 0 0) p.torque);
  top = neighbour_high torques 100 p.torque axes.torques w.top;
}
  where
    go : Dec (100 * get_or torques 0 0 ≤ p.torque) → (100 * get_or torques (neighbour torques 100 p.torque) 0 ≤ p.torque) ⊎ (neighbour torques 100 p.torque ≡ 0)
    go (yes l) = inl (neighbour_low torques 100 p.torque axes.torques l)
    go (no l) = inr (neighbour_first torques 100 p.torque axes.torques (omega arith))
