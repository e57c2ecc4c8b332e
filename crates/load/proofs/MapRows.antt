-- The rows of a map, speed after speed: each goes on with those before it, and all of them say the map. Assumes nothing.
use Rattle.std.proofs.Common.{ℕ, zero, suc, ◌+◌, ◌-◌, ◌*◌, ◌/◌, ◌%◌, ◌≤◌, ◌<◌, ◌≡◌, ◌∙◌, ◌==◌, ◌||◌, ◌&&◌, Bool, true, refl, sym, ap, arith, List, [], ◌∷◌, ◌++◌, leb, length, get_or, take, length-append, eq-or-lt_of_le, le_of_suc-le-suc, ⊎_elim, length-take-le, one-mul, mul-le-mul_right, take-suc}
use Rattle.std.proofs.lemmas.Bool.{eq-eqb, ne_eqb, le-leb, cases_lt, cases_eq, or_left, or_right, and_from}
use Rattle.std.proofs.lemmas.List.{get_or_append_left, get_or_at, get_or-take, get_or_past}
use Rattle.std.proofs.lemmas.List.Sums.{prefix_len_is}
use Rattle.std.proofs.lemmas.Nat.{div-add-mod', mod_below}
use Rattle.std.proofs.Math.Nat.{mod-eq_of_lt, div-eq_of_lt, mul-mod_left, mul-div_cancel}
use Rattle.refusal.specs.Outcome.{accepted}
use Rattle.grid.specs.Every.{every}
use Rattle.grid.specs.Lists.{tabulate}
use Rattle.grid.specs.Axis.{◌to◌, first_step}
use Rattle.grid.specs.Rules.{AxisRules, MapRules}
use Rattle.grid.specs.LossMap.{map_left}
use Rattle.grid.specs.declared.Range.{Range}
use Rattle.grid.specs.declared.Grid.{Grid}
use Rattle.grid.proofs.Every.{every_of}
use Rattle.grid.proofs.Points.{row_within}
use Rattle.grid.proofs.AxisLaws.{within_range, rises_of}
use Rattle.listing_lines.specs.Lines.{lines}
use Rattle.listing_lines.specs.declared.Row.{Row}
use Rattle.load.specs.Rows.{row_at, first_run, last_run, in_first_run, in_later_run, follows}
use Rattle.load.specs.Load.{run_count, whole_runs, map_said, map_check, all_within, all_rise, rows_of, load}

-- the first rows of a sequence of rows
unfoldable pub first_rows : (ℕ → Row) → (count : ℕ) → List Row
first_rows row zero = []
first_rows row (suc count) = first_rows row count ++ (row count ∷ [])

module _ (row : ℕ → Row) where
  pub length_rows : (count : ℕ) → length (first_rows row count) ≡ count
  unfolding first_rows
  length_rows zero = refl
  length_rows (suc count) = simp (length-append, length_rows count) (omega arith)

  pub get_row : (count i : ℕ) (other : Row) → i < count → get_or (first_rows row count) i other ≡ row i
  unfolding first_rows
  get_row zero i other l = absurd (omega arith)
  get_row (suc count) i other l =
      ⊎_elim
      (λ (e : i ≡ count). rw e (get_or_at (first_rows row count) (row count) [] other count (length_rows count)))
      (λ (q : i < count). get_or_append_left (first_rows row count) (row count ∷ []) other i (rw length_rows q) ∙ get_row count i other q)
      (eq-or-lt_of_le (le_of_suc-le-suc l))

-- numbers that are those of a list
tabulate_take : (f : ℕ → ℕ) (xs : List ℕ) (count : ℕ) → count ≤ length xs → ((i : ℕ) → i < count → f i ≡ get_or xs i 0) → tabulate f count ≡ take count xs
unfolding tabulate
tabulate_take f xs zero long same = refl
tabulate_take f xs (suc count) long same =
    let here : f count ≡ get_or xs count 0 = same count (omega arith) in
    let inside : count < length xs = omega arith in
    rw (take-suc xs count 0 inside, tabulate_take f xs count (omega arith) (λ i l. same i (omega arith)), here)

-- tests of two numbers with another test
equal_and : (a b : ℕ) (test : Bool) → a ≡ b → test ≡ true → (a == b && test) ≡ true
equal_and a b test e t = and_from (a == b) test (eq-eqb a b e) t

equal_or : (a b c d : ℕ) → ((a ≡ b → ⊥) → c ≡ d) → (a == b || c == d) ≡ true
equal_or a b c d other =
    ⊎_elim (λ (e : a ≡ b). or_left (a == b) (c == d) (eq-eqb a b e)) (λ (f : a ≡ b → ⊥). or_right (a == b) (c == d) (eq-eqb c d (other f))) (cases_eq a b)

-- the row of point k: its speed and its torque are those of the point, n points standing at each speed
abbrev pub map_row : (speeds torques entries : List ℕ) (n k : ℕ) → Row
map_row speeds torques entries n k = record { speed = get_or speeds (k / n) 0; torque = get_or torques (k % n) 0; loss = get_or entries k 0 }

module _ (speeds torques entries : List ℕ) (n : ℕ) (some : 0 < n) where
  abbrev row : ℕ → Row
  row k = map_row speeds torques entries n k

  -- the row of any index, where there is one
  row_at_is : (k i : ℕ) → i < k → row_at (first_rows row k) i ≡ row i
  row_at_is k i l = get_row row k i _ l

  -- the rows of the first run have the first speed
  first_speed : (i : ℕ) → i < n → (row i).speed ≡ get_or speeds 0 0
  first_speed i l = ap (λ (j : ℕ). get_or speeds j 0) (div-eq_of_lt l)

  -- the second speed, where a row has it, is another
  Rise : ℕ → Type 0
  Rise k = n < k → get_or speeds 0 0 < get_or speeds 1 0

  second_speed : (row n).speed ≡ get_or speeds 1 0
  second_speed = ap (λ (j : ℕ). get_or speeds j 0) (rw one-mul at (mul-div_cancel 1 some))

  same_speed : (k i : ℕ) → i < k → i < n → (row_at (first_rows row k) i).speed ≡ (row_at (first_rows row k) 0).speed
  same_speed k i l q =
      rw (row_at_is k i l, row_at_is k 0 (omega arith)) (first_speed i q ∙ sym (first_speed 0 some))

  -- so the first run has as many rows as there are, or as many as there are torques
  run_is : (k count : ℕ) → count ≤ k → count ≤ n → (count < k → (count ≡ n) × (get_or speeds 0 0 < get_or speeds 1 0)) → first_run (first_rows row k) ≡ count
  unfolding first_run
  run_is k count l most stop =
      let long = length_rows row k in
      prefix_len_is _ (first_rows row k) count (record { speed = 0; torque = 0; loss = 0 }) (omega arith)
      (λ i q. eq-eqb _ _ (same_speed k i (omega arith) (omega arith)))
      (λ q. ne_eqb _ _ (other q))
    where
      other : count < length (first_rows row k) → (row_at (first_rows row k) count).speed ≡ (row_at (first_rows row k) 0).speed → ⊥
      other q same =
          let long = length_rows row k in
          let stops = stop (omega arith) in
          let at = row_at_is k count (omega arith) in
          let zero = row_at_is k 0 (omega arith) in
          let first = first_speed 0 some in
          let second = second_speed in
          let equal : get_or speeds 1 0 ≡ get_or speeds 0 0 = cc in
          omega arith

  run_stays : (k : ℕ) → n ≤ k → Rise k → first_run (first_rows row k) ≡ n
  unfolding Rise
  run_stays k l rise = run_is k n l (omega arith) (λ q. (refl, rise q))

  first_goes_on : (k : ℕ) → k < n → in_first_run (first_rows row k) (row k) ≡ true
  unfolding in_first_run
  first_goes_on k l =
      let rows = first_rows row k in
      equal_and (first_run rows) (length rows) (length rows == 0 || (row k).speed == (row_at rows 0).speed)
      (run_is k k (omega arith) (omega arith) (λ q. absurd (omega arith)) ∙ sym (length_rows row k))
      (equal_or (length rows) 0 (row k).speed (row_at rows 0).speed
      (λ other. first_speed k l ∙ sym (rw (row_at_is k 0 (omega (arith, length_rows row k))) (first_speed 0 some))))

  last_is : (k : ℕ) → n ≤ k → Rise k → last_run (first_rows row k) ≡ k % n
  unfolding last_run
  last_is k l rise = rw (length_rows row k, run_stays k l rise)

  same_torque : (k : ℕ) → n ≤ k → (row k).torque ≡ (row_at (first_rows row k) (k % n)).torque
  same_torque k l =
      let below : k % n < n = mod_below k n some in
      rw (row_at_is k (k % n) (omega arith)) (sym (ap (λ (j : ℕ). get_or torques j 0) (mod-eq_of_lt below)))

  run_speed : (k : ℕ) → n ≤ k → (k % n ≡ 0 → ⊥) → (row k).speed ≡ (row_at (first_rows row k) (k - k % n)).speed
  run_speed k l other =
      let parts : k - k % n ≡ k / n * n = omega (arith, div-add-mod' k n) in
      rw (row_at_is k (k - k % n) (omega (arith, mod_below k n some)), parts)
      (sym (ap (λ (i : ℕ). get_or speeds i 0) (mul-div_cancel (k / n) some)))

  later_goes_on : (k : ℕ) → n ≤ k → Rise k → in_later_run (first_rows row k) (row k) ≡ true
  unfolding in_later_run
  later_goes_on k l rise =
      let rows = first_rows row k in
      let j = k % n in
      rw (last_is k l rise, length_rows row k)
      (equal_and (row k).torque (row_at rows j).torque (j == 0 || (row k).speed == (row_at rows (k - j)).speed)
      (same_torque k l)
      (equal_or j 0 (row k).speed (row_at rows (k - j)).speed (run_speed k l)))

  -- each row goes on with those before it
  pub row_follows : (k : ℕ) → (n < k → get_or speeds 0 0 < get_or speeds 1 0) → follows (first_rows row k) (row k) ≡ true
  unfolding follows Rise
  row_follows k rise =
      let rows = first_rows row k in
      ⊎_elim
      (λ (l : k < n). or_left (in_first_run rows (row k)) (in_later_run rows (row k)) (first_goes_on k l))
      (λ (l : n ≤ k). or_right (in_first_run rows (row k)) (in_later_run rows (row k)) (later_goes_on k l rise))
      (cases_lt k n)

  -- m runs of rows
  module _ (m : ℕ) (rise : get_or speeds 0 0 < get_or speeds 1 0) (two : 2 ≤ m) where
    abbrev rows : List Row
    rows = first_rows row (m * n)

    enough : n ≤ m * n
    enough = omega (arith, mul-le-mul_right {m = 1} {n = m} n (omega arith))

    pub all_first : first_run rows ≡ n
    unfolding Rise
    all_first = run_stays (m * n) enough (λ q. rise)

    all_count : length rows ≡ m * n
    all_count = length_rows row (m * n)

    all_last : last_run rows ≡ 0
    unfolding last_run
    all_last = rw (all_count, all_first) (mul-mod_left m n)

    all_runs : run_count rows ≡ m
    unfolding run_count
    all_runs = rw (all_count, all_first) (mul-div_cancel m some)

    pub all_whole : m ≤ 32 → 2 ≤ n → n ≤ 64 → whole_runs rows ≡ true
    unfolding whole_runs
    all_whole few least most = rw (all_last, all_runs, all_first, le-leb 2 m two, le-leb m 32 few, le-leb 2 n least, le-leb n 64 most)

    -- the map that they say
    said_speeds : m ≤ length speeds → tabulate (λ i. (row_at rows (i * first_run rows)).speed) (run_count rows) ≡ take m speeds
    said_speeds long =
        rw all_runs
        (tabulate_take _ speeds m long
        (λ i l. rw (all_first, row_at_is (m * n) (i * n) (omega (arith, row_within i m n l))) (ap (λ (j : ℕ). get_or speeds j 0) (mul-div_cancel i some))))

    said_torques : n ≤ length torques → tabulate (λ i. (row_at rows i).torque) (first_run rows) ≡ take n torques
    said_torques long =
        rw all_first
        (tabulate_take _ torques n long (λ i l. rw (row_at_is (m * n) i (omega (arith, enough))) (ap (λ (j : ℕ). get_or torques j 0) (mod-eq_of_lt l))))

    said_entries : m * n ≤ length entries → tabulate (λ i. (row_at rows i).loss) (length rows) ≡ take (m * n) entries
    said_entries long = rw all_count (tabulate_take _ entries (m * n) long (λ i l. rw (row_at_is (m * n) i l)))

    pub all_said : m ≤ length speeds → n ≤ length torques → m * n ≤ length entries → map_said rows ≡ record { speeds = take m speeds; torques = take n torques; entries = take (m * n) entries }
    unfolding map_said
    all_said speeds_long torques_long entries_long = rw (said_speeds speeds_long, said_torques torques_long, said_entries entries_long)

-- ---- the numbers of an axis, and the axis that they are
-- there is a number where one is above 0
stands : (ns : List ℕ) (i : ℕ) → 0 < get_or ns i 0 → i < length ns
stands ns i above =
    ⊎_elim (λ (l : i < length ns). l) (λ (l : length ns ≤ i). absurd (omega (arith, get_or_past ns i 0 l))) (cases_lt i (length ns))

-- an axis has all its numbers: the last is above the one before
pub axis_long : (range : Range) (most : ℕ) (ns : List ℕ) (count : ℕ) → AxisRules range most ns count → count ≤ length ns
axis_long range most ns count rules =
    let last : count - 2 + 1 ≡ count - 1 = omega arith in
    omega (arith, stands ns (count - 1) (omega (arith, rw last at (rules.rising (count - 2) (omega arith)))))

module _ (range : Range) (most : ℕ) (ns : List ℕ) (count : ℕ) (rules : AxisRules range most ns count) where
  long : length (take count ns) ≡ count
  long = length-take-le count ns (axis_long range most ns count rules)

  axis_within : all_within range (take count ns) ≡ true
  axis_within =
      rw long (every_of _ count (λ i l. rw (get_or-take count ns i 0 l) (within_range range _ (rules.ranges i l))))

  axis_rise : all_rise (take count ns) ≡ true
  axis_rise =
      rw long
      (every_of _ count (λ i l. rises_of (take count ns) i (λ j e. rw (get_or-take count ns j 0 (omega arith), get_or-take count ns (j + 1) 0 (omega arith)) (rules.rising j (omega arith)))))

-- ---- all of it for a map
-- the row of a map's point
abbrev pub map_point : (grid : Grid) (entries : List ℕ) (k : ℕ) → Row
map_point grid entries k = map_row grid.speeds.numbers grid.torques.numbers entries grid.torques.count k

module _ (grid : Grid) (entries : List ℕ) (map : MapRules grid entries) where
  abbrev m : ℕ
  m = grid.speeds.count

  abbrev n : ℕ
  n = grid.torques.count

  abbrev speeds : List ℕ
  speeds = grid.speeds.numbers

  abbrev torques : List ℕ
  torques = grid.torques.numbers

  speeds_long : m ≤ length speeds
  speeds_long = axis_long (1 to 3000) 32 speeds m map.axes.speeds

  torques_long : n ≤ length torques
  torques_long = axis_long (0 to 50000) 64 torques n map.axes.torques

  torques_some : 0 < n
  torques_some = omega (arith, map.axes.torques.at_least)

  second_rises : get_or speeds 0 0 < get_or speeds 1 0
  second_rises = map.axes.speeds.rising 0 (omega (arith, map.axes.speeds.at_least))

  pub point_follows : (k : ℕ) → follows (first_rows (map_point grid entries) k) (map_point grid entries k) ≡ true
  point_follows k = row_follows speeds torques entries n torques_some k (λ l. second_rises)

  abbrev map_rows : List Row
  map_rows = first_rows (map_point grid entries) (m * n)

  rows_whole : whole_runs map_rows ≡ true
  rows_whole =
      all_whole speeds torques entries n torques_some m second_rises map.axes.speeds.at_least map.axes.speeds.at_most map.axes.torques.at_least map.axes.torques.at_most

  rows_say : map_said map_rows ≡ map_left entries grid
  rows_say = all_said speeds torques entries n torques_some m second_rises map.axes.speeds.at_least speeds_long torques_long map.enough

  step_kept : first_step (take n torques) ≡ true
  unfolding first_step
  step_kept =
      let least = map.axes.torques.at_least in
      rw (get_or-take n torques 0 0 torques_some, get_or-take n torques 1 0 (omega arith))
      (le-leb _ _ map.axes.step)

  entries_count : length (take (m * n) entries) ≡ m * n
  entries_count = length-take-le (m * n) entries map.enough

  entries_small : every (λ i. leb (get_or (take (m * n) entries) i 0) 10000000) (length (take (m * n) entries)) ≡ true
  entries_small =
      rw entries_count
      (every_of _ (m * n) (λ i l. rw (get_or-take (m * n) entries i 0 l) (le-leb _ _ (map.small i l))))

  map_checked : (lent : ℕ) → m * n ≤ lent → map_check (map_left entries grid) lent ≡ accepted tt
  unfolding map_check
  map_checked lent fits =
      rw (axis_within (1 to 3000) 32 speeds m map.axes.speeds, axis_within (0 to 50000) 64 torques n map.axes.torques, axis_rise (1 to 3000) 32 speeds m map.axes.speeds, axis_rise (0 to 50000) 64 torques n map.axes.torques, step_kept, entries_small, entries_count, le-leb (m * n) lent fits)

  -- a text of these rows loads to the map
  pub rows_load : (text : List ℕ) (lent : ℕ) → rows_of (lines text) ≡ accepted (first_rows (map_point grid entries) (grid.speeds.count * grid.torques.count)) → grid.speeds.count * grid.torques.count ≤ lent
      → load text lent ≡ accepted (map_left entries grid)
  unfolding load
  rows_load text lent read fits = rw (read, rows_whole, rows_say, map_checked lent fits)
