-- What the nearest number is, said without its search. Assumes nothing.
use Rattle.std.proofs.Common.{◌≡◌, ℕ, zero, suc, ◌+◌, ◌*◌, ◌≤◌, ◌<◌, Bool, true, false, cond, ltb, List, length, get_or, refl, arith, rules}
use Rattle.std.specs.Cmp.{IsStrictWeakOrder}
use Rattle.std.specs.List.{IsFirstBest}
use Rattle.std.proofs.lemmas.Grind.{common_steps}
use Rattle.std.proofs.lemmas.Bool.Decides.{nat_tests}
use Rattle.std.proofs.lemmas.List.{get_or_default}
use Rattle.std.proofs.lemmas.List.MinMax.{IsStrictWeakOrder-by_number, IsFirstBest-keeps, IsFirstBest-takes}
use native.Mathlib.Omega.{by_contra}
use native.Mathlib.Decide.{dec_lt}
use native.Mathlib.Nat.{le_refl, mul-le-mul_left}
use Rattle.std.proofs.Math.Nat.{mul-lt-mul_of_pos_left}
use borrow.Author.Tests.{ltb-true, ltb-false}
use Rattle.refusal.specs.Outcome.{accepted}
use Rattle.grid.specs.Map.{counted_numbers, valid_grid}
use Rattle.grid.specs.declared.Grid.{Grid}
use Rattle.cell.specs.declared.Point.{Point}
use Rattle.lookup.specs.Nearest.{distance, nearest_index, nearest_number, nearest_point, GridPoint, nearest_answer}
use Rattle.lookup.specs.Loss.{neighbour}
use Rattle.lookup.proofs.Axes.{Rising, grid_axes, rise_lt, rise_le, neighbour_in, neighbour_at_most, neighbour_above}

-- one number is nearer to v than another, when each counts scale
abbrev pub nearer : (scale v : ℕ) → ℕ → ℕ → Bool
nearer scale v x y = ltb (distance (scale * x) v) (distance (scale * y) v)

-- ---- what the search finds

module _ (ns : List ℕ) (scale v : ℕ) where
  order : IsStrictWeakOrder (nearer scale v)
  order = IsStrictWeakOrder-by_number (λ x. distance (scale * x) v)

  step : (i n best : ℕ) (t : Bool) → n ≡ i + 1 → i < length ns → nearer scale v (get_or ns i 0) (get_or ns best 0) ≡ t → IsFirstBest (nearer scale v) ns i best → IsFirstBest (nearer scale v) ns n (cond t i best)
  step i n best true s l e h = rw s (IsFirstBest-takes order ns i best (get_or ns i 0) (get_or ns best 0) h l (search (rules, get_or_default)) (search (rules, get_or_default)) e)
  step i n best false s l e h = rw s (IsFirstBest-keeps order ns i best (get_or ns i 0) (get_or ns best 0) h l (search (rules, get_or_default)) (search (rules, get_or_default)) e)

  -- the first of those that are nearest
  pub first_nearest : (n : ℕ) → 0 < n → n ≤ length ns → IsFirstBest (nearer scale v) ns n (nearest_index ns scale v n)
  unfolding nearest_index
  first_nearest zero h l = absurd (omega arith)
  first_nearest (suc zero) h l = grind (arith, common_steps, nat_tests)
  first_nearest (suc (suc i)) h l = step (suc i) _ _ _ (omega arith) (omega arith) refl (first_nearest (suc i) (omega arith) (omega arith))

-- n is the number of the axis that is nearest to v when each counts scale: no other is nearer, and each that is equally near is not lower
pub record Nearest (ns : List ℕ) (scale v n : ℕ) : Type 0 where
  pub index : ℕ
  pub on_axis : index < length ns
  pub there : n ≡ get_or ns index 0
  pub least : (k : ℕ) → k < length ns → distance (scale * n) v ≤ distance (scale * get_or ns k 0) v
  pub lowest : (k : ℕ) → k < length ns → distance (scale * get_or ns k 0) v ≡ distance (scale * n) v → n ≤ get_or ns k 0

pub nearest_law : (ns : List ℕ) → Rising ns → (scale v : ℕ) → Nearest ns scale v (nearest_number ns scale v)
unfolding nearest_number
nearest_law ns r scale v =
    let i = nearest_index ns scale v (length ns) in
    let h = first_nearest ns scale v (length ns) (omega (arith, r.two)) (le_refl _) in
    record {
      index = i;
      on_axis = h.0;
      there = refl;
      least = λ k l. ltb-false _ _ (h.1 k 0 l);
      lowest = λ k l e. rise_le ns r i k (by_contra i k (λ m. omega (arith, ltb-true _ _ (h.2 k 0 m)))) l;
    }

-- there is one such number
pub nearest_unique : (ns : List ℕ) (scale v : ℕ) {n m : ℕ} → Nearest ns scale v n → Nearest ns scale v m → n ≡ m
nearest_unique ns scale v {n} {m} a b =
    let e : distance (scale * n) v ≡ distance (scale * m) v = omega (arith, rw (← b.there) at (a.least b.index b.on_axis), rw (← a.there) at (b.least a.index a.on_axis)) in
    omega (arith, rw (← b.there) at (a.lowest b.index b.on_axis), rw (← a.there) at (b.lowest a.index a.on_axis), e)

-- ---- it is one of the two neighbours of v

module _ (ns : List ℕ) (r : Rising ns) (scale v : ℕ) (p : 0 < scale) where
  abbrev lower : ℕ
  lower = neighbour ns scale v

  abbrev away : ℕ → ℕ
  away k = distance (scale * get_or ns k 0) v

  -- each number below the lower neighbour is farther away
  farther_below : (k : ℕ) → k < lower → away lower < away k
  farther_below k h =
      let there = neighbour_in ns scale v r in
      let rise = rise_lt ns r k lower h (omega arith) in
      let below = neighbour_at_most ns scale v r (omega arith) in
      omega (arith, mul-lt-mul_of_pos_left rise p, below)

  -- and no number above the upper one is nearer
  not_nearer_above : (k : ℕ) → lower + 1 ≤ k → k < length ns → away (lower + 1) ≤ away k
  not_nearer_above k h l = go (dec_lt (lower + 1) k)
    where
      go : Dec (lower + 1 < k) → away (lower + 1) ≤ away k
      go (yes m) =
          let above = neighbour_above ns scale v r (lower + 1) (omega arith) (omega arith) in
          let rise = mul-le-mul_left scale (rise_le ns r (lower + 1) k (omega arith) l) in
          omega (arith, above, rise)
      go (no m) = let e : k ≡ lower + 1 = omega arith in rw e (le_refl _)

  nearest_of : (i : ℕ) → i < length ns → ((k : ℕ) → k < length ns → away i ≤ away k) → ((k : ℕ) → k < length ns → away k ≡ away i → i ≤ k) → get_or ns i 0 ≡ nearest_number ns scale v
  nearest_of i on least first =
      nearest_unique ns scale v
      (record { index = i; on_axis = on; there = refl; least = least; lowest = λ k l e. rise_le ns r i k (first k l e) l })
      (nearest_law ns r scale v)

  below_or_above : (P : ℕ → Type 0) → ((k : ℕ) → k < lower → P k) → P lower → ((k : ℕ) → lower + 1 ≤ k → k < length ns → P k) → (k : ℕ) → k < length ns → P k
  below_or_above P below here above k l = go (dec_lt k lower) (dec_lt lower k)
    where
      go : Dec (k < lower) → Dec (lower < k) → P k
      go (yes a) b = below k a
      go (no a) (yes b) = above k (omega arith) l
      go (no a) (no b) = let e : k ≡ lower = omega arith in rw e here

  pub lower_is_nearest : away lower ≤ away (lower + 1) → get_or ns lower 0 ≡ nearest_number ns scale v
  lower_is_nearest e =
      nearest_of lower (omega (arith, neighbour_in ns scale v r))
      (below_or_above (λ k. away lower ≤ away k) (λ k a. omega (arith, farther_below k a)) (le_refl _) (λ k a l. omega (arith, e, not_nearer_above k a l)))
      (below_or_above (λ k. away k ≡ away lower → lower ≤ k) (λ k a q. absurd (omega (arith, farther_below k a, q))) (λ q. le_refl _) (λ k a l q. omega (arith, a)))

  pub upper_is_nearest : away (lower + 1) < away lower → get_or ns (lower + 1) 0 ≡ nearest_number ns scale v
  upper_is_nearest e =
      nearest_of (lower + 1) (neighbour_in ns scale v r)
      (below_or_above (λ k. away (lower + 1) ≤ away k) (λ k a. omega (arith, e, farther_below k a)) (omega (arith, e)) (λ k a l. not_nearer_above k a l))
      (below_or_above (λ k. away k ≡ away (lower + 1) → lower + 1 ≤ k) (λ k a q. absurd (omega (arith, e, farther_below k a, q))) (λ q. absurd (omega (arith, e, q))) (λ k a l q. a))

-- ---- what is answered

-- axes that keep their rules: the answer is the nearest number of each
pub nearest_answered : (grid : Grid) (p : Point) → valid_grid grid ≡ true →
    (g : GridPoint) × (nearest_answer grid p ≡ accepted g) × Nearest (counted_numbers grid.speeds) 10 p.speed g.speed × Nearest (counted_numbers grid.torques) 100 p.torque g.torque
unfolding nearest_answer
nearest_answered grid p e = let axes = grid_axes grid e in (nearest_point grid p, rw e, nearest_law _ axes.speeds 10 p.speed, nearest_law _ axes.torques 100 p.torque)
