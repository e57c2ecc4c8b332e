-- What the build leaves is a map: its axes keep their rules and none of its entries is above 10,000,000. Assumes nothing.
use Prim.Native.Nat.{ℕ, zero, suc, ◌+◌, ◌*◌, ◌/◌, ◌%◌, ◌≤◌, ◌<◌}
use mathlib.Core.Path.{◌≡◌, sym, ap, ◌∙◌}
use mathlib.Core.Bool.{true}
use mathlib.Core.List.{List}
use mathlib.Core.Logic.{⊎_elim}
use native.Mathlib.Omega.{arith}
use native.Mathlib.Nat.{eq-or-lt_of_le, le_of_suc-le-suc, not-suc-le-zero, div-add-mod', mod-lt, div-lt_iff_lt-mul}
use borrow.Author.Tests.{leb-true}
use lib.Dec.{leb}
use lib.ListN.{length, get_or, take, length-take, get_or-append}
use lib.Seq.{get_or-append-add, get_or-take}
use Rattle.refusal.specs.Outcome.{accepted}
use Rattle.refusal.proofs.Steps.{same_value, then_accepted, test_accepted, placed_accepted}
use Rattle.refusal.proofs.First.{first_all}
use Rattle.grid.specs.Lists.{joined}
use Rattle.std.proofs.Common.{Ok}
use Rattle.grid.specs.Map.{valid_map}
use Rattle.grid.specs.declared.Grid.{Grid}
use Rattle.grid.specs.declared.Range.{Range}
use Rattle.grid.specs.Rules.{AxisRules}
use Rattle.grid.proofs.Map.{map_of_lem}
use Rattle.component.specs.Component.{Component, Kind, standard, measured, component}
use Rattle.rows.proofs.Acceptance.{row_right}
use Rattle.layout.specs.Rules.{AreBytes, Rules}
use Rattle.layout.proofs.Theorems.{sound}
use Rattle.map.specs.Build.{points, torque_count, entry, entry_of_kind, check, check_of_kind, speed_check, rows_check, speed_entries, entries, map_of, build}
use Rattle.map.specs.Answers.{Builds}
use Rattle.grid.proofs.Lists.{tabulate_at, length_tabulate, length_joined}
use Rattle.grid.proofs.Points.{row_within}
use Rattle.grid.specs.LossMap.{LossMap, map_left}
use Rattle.map.proofs.StandardRows.{standard_most}

-- ---- what stands at an index of the entries
pub joined_at : (f : ℕ → List ℕ) (n m : ℕ) → ((s : ℕ) → s < m → length (f s) ≡ n) → (s j : ℕ) → s < m → j < n → get_or (joined f m) (s * n + j) 0 ≡ get_or (f s) j 0
unfolding joined
joined_at f n zero e s j h l = absurd (not-suc-le-zero h)
joined_at f n (suc m) e s j h l =
    let all = length_joined f n m (λ i k. e i (omega arith)) in
    ⊎_elim
    (λ q.
    let z : s * n ≡ length (joined f m) = ap (λ (k : ℕ). k * n) q ∙ sym all in
    rw (z, get_or-append-add (joined f m) (f m) j 0) (ap (λ (k : ℕ). get_or (f k) j 0) (sym q)))
    (λ k.
    let r : s * n + j < length (joined f m) = omega (arith, all, row_within s m n k) in
    get_or-append (joined f m) (f m) 0 (s * n + j) r ∙ joined_at f n m (λ i t. e i (omega arith)) s j k l)
    (eq-or-lt_of_le (le_of_suc-le-suc h))

pub speed_long : (c : Component) (s : ℕ) → length (speed_entries c s) ≡ torque_count c
unfolding speed_entries
speed_long c s = length_tabulate (entry c s) (torque_count c)

pub entries_long : (c : Component) → length (entries c) ≡ points c
unfolding entries
entries_long c = length_joined (speed_entries c) (torque_count c) (length c.speeds) (λ s h. speed_long c s)

-- the entry of a point
pub entries_at : (c : Component) (s j : ℕ) → s < length c.speeds → j < torque_count c → get_or (entries c) (s * torque_count c + j) 0 ≡ entry c s j
unfolding entries speed_entries
entries_at c s j h l =
    joined_at (speed_entries c) (torque_count c) (length c.speeds) (λ i k. speed_long c i) s j h l ∙ tabulate_at (entry c s) (torque_count c) j 0 l

-- the same where the count of torques is known by another name
entries_by : (c : Component) (n s j : ℕ) → torque_count c ≡ n → s < length c.speeds → j < n → get_or (entries c) (s * n + j) 0 ≡ entry c s j
entries_by c n s j e h l = rw (← e) (entries_at c s j h (omega arith))

-- ---- data that is accepted, and the build of it
pub record BuiltFrom (bytes : List ℕ) (lent : ℕ) (m : LossMap) : Type 0 where
  pub says : Component
  pub read : component bytes ≡ accepted says
  pub room : points says ≤ lent
  pub rows : rows_check says ≡ accepted tt
  pub speeds : says.speeds ≡ m.speeds
  pub torques : says.torques ≡ m.torques
  pub entries_are : entries says ≡ m.entries

pub built_from : (bytes : List ℕ) (lent : ℕ) (m : LossMap) → accepted m ≡ build bytes lent → BuiltFrom bytes lent m
unfolding build map_of
built_from bytes lent m e =
    let a = then_accepted (component bytes) _ m (sym e) in
    let c = a.0 in
    let b = test_accepted (leb (points c) lent) 11 (points c) _ m a.2 in
    let d = then_accepted (rows_check c) _ m b.1 in
    let v = same_value _ m d.2 in
    record {
      says = c;
      read = a.1;
      room = leb-true _ _ b.0;
      rows = d.1;
      speeds = ap (λ (x : LossMap). x.speeds) v;
      torques = ap (λ (x : LossMap). x.torques) v;
      entries_are = ap (λ (x : LossMap). x.entries) v;
    }

-- ---- no entry is above 10,000,000
kind_small : (c : Component) (kind : Kind) (s j : ℕ) → Rules c → j < torque_count c → check_of_kind c s j kind ≡ accepted tt → entry_of_kind c s j kind ≤ 10000000
unfolding check_of_kind entry_of_kind
kind_small c standard s j r h e = standard_most _ _ _ r.line.0 r.line.1 r.ratio.1 (r.torques.ranges j h).1
kind_small c (measured input outputs rows) s j r h e = (row_right _ _ (placed_accepted _ _ tt e)).small

pub entry_small : (c : Component) (s j : ℕ) → Rules c → rows_check c ≡ accepted tt → s < length c.speeds → j < torque_count c → entry c s j ≤ 10000000
unfolding rows_check speed_check check entry
entry_small c s j r e h l =
    kind_small c c.kind s j r l
    (first_all _ 0 (torque_count c) (first_all _ 0 (length c.speeds) e s (omega arith) (omega arith)) j (omega arith) (omega arith))

-- ---- the map that an accepted build leaves
axis_kept : (range : Range) (most : ℕ) (ns numbers : List ℕ) (count : ℕ) → AxisRules range most ns (length ns) → ns ≡ take count numbers → length (take count numbers) ≡ count
    → AxisRules range most numbers count
axis_kept range most ns numbers count r e l =
    let n : length ns ≡ count = ap length e ∙ l in
    let at : (k : ℕ) → k < count → get_or ns k 0 ≡ get_or numbers k 0 = λ k h. ap (λ (x : List ℕ). get_or x k 0) e ∙ get_or-take count numbers k 0 h in
    record {
      at_least = omega (arith, r.at_least);
      at_most = omega (arith, r.at_most);
      ranges = λ k h. rw (at k h) at (r.ranges k (omega arith));
      rising = λ k h. rw (at k (omega arith), at (k + 1) h) at (r.rising k (omega arith));
    }

module _ (bytes before after : List ℕ) (are_bytes : AreBytes bytes) (grid : Grid) (b : Builds bytes before after (Ok grid)) where
  pub from_data : BuiltFrom bytes (length before) (map_left after grid)
  from_data = built_from bytes (length before) (map_left after grid) b.outcome

  pub data_rules : Rules from_data.says
  data_rules = (sound bytes from_data.says are_bytes from_data.read).0

  speed_count_lem : length from_data.says.speeds ≡ grid.speeds.count
  speed_count_lem = ap length from_data.speeds ∙ b.counts.speeds_length

  torque_count_lem : length from_data.says.torques ≡ grid.torques.count
  torque_count_lem = ap length from_data.torques ∙ b.counts.torques_length

  -- the entry of a point is what stands at its index
  pub entry_there : (s j : ℕ) → s < grid.speeds.count → j < grid.torques.count → get_or after (s * grid.torques.count + j) 0 ≡ entry from_data.says s j
  entry_there s j h l =
      let n = grid.torques.count in
      let k : s * n + j < grid.speeds.count * n = omega (arith, row_within s grid.speeds.count n h) in
      sym (get_or-take (grid.speeds.count * n) after (s * n + j) 0 k)
      ∙ ap (λ (x : List ℕ). get_or x (s * n + j) 0) (sym from_data.entries_are)
      ∙ entries_by from_data.says n s j torque_count_lem (omega (arith, speed_count_lem)) l

  entry_limit : (k : ℕ) → k < grid.speeds.count * grid.torques.count → get_or after k 0 ≤ 10000000
  entry_limit k h =
      let n = grid.torques.count in
      let pos : 0 < n = omega (arith, data_rules.torques.at_least, torque_count_lem) in
      let s : k / n < grid.speeds.count = (div-lt_iff_lt-mul pos).1 h in
      let j : k % n < n = mod-lt k pos in
      let e : k / n * n + k % n ≡ k = div-add-mod' k n in
      rw (← e, entry_there (k / n) (k % n) s j)
      (entry_small from_data.says (k / n) (k % n) data_rules from_data.rows (omega (arith, speed_count_lem)) (omega (arith, torque_count_lem)))

  pub is_map : valid_map grid after ≡ true
  is_map =
      let m = grid.speeds.count in
      let n = grid.torques.count in
      let t = grid.torques.numbers in
      let two : 2 ≤ n = omega (arith, data_rules.torques.at_least, torque_count_lem) in
      let t0 : get_or from_data.says.torques 0 0 ≡ get_or t 0 0 = ap (λ (x : List ℕ). get_or x 0 0) from_data.torques ∙ get_or-take n t 0 0 (omega arith) in
      let t1 : get_or from_data.says.torques 1 0 ≡ get_or t 1 0 = ap (λ (x : List ℕ). get_or x 1 0) from_data.torques ∙ get_or-take n t 1 0 (omega arith) in
      map_of_lem grid after
      (record {
        axes = record {
          speeds = axis_kept _ _ _ _ _ data_rules.speeds from_data.speeds b.counts.speeds_length;
          torques = axis_kept _ _ _ _ _ data_rules.torques from_data.torques b.counts.torques_length;
          step = rw (t0, t1) at data_rules.step;
        };
        enough = omega (arith, length-take (m * n) after, ap length from_data.entries_are, entries_long from_data.says, product);
        small = entry_limit;
      })
    where
      product : points from_data.says ≡ grid.speeds.count * grid.torques.count
      product = rw (speed_count_lem, torque_count_lem)
