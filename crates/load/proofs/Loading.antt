-- The map of the rows that were read. Assumes nothing.
use Rattle.std.proofs.Common.{◌≡◌, ◌∙◌, ◌+◌, ◌*◌, ◌≤◌, ◌<◌, ◌&&◌, ◌==◌, ℕ, true, false, refl, sym, ap, arith, List, [], ◌∷◌, length, get_or, take, drop, leb, leb-true, le-leb, length-take, Ok, Err, ⊎_elim}
use native.Mathlib.Decide.{dec_lt}
use Rattle.std.proofs.Math.Seq.{take-append_seam}
use Rattle.std.proofs.Math.Nat.{le_refl, mul-le-mul_right}
use Rattle.std.proofs.lemmas.Bool.{lt-leb}
use Rattle.std.proofs.lemmas.Nat.{div-mul-add}
use Rattle.std.proofs.lemmas.List.{get_or-take}
use Rattle.std.proofs.lemmas.Grind.{same_number_lists}
use Rattle.refusal.specs.Outcome.{Outcome, Told, accepted, refused, refuse, ◌>>=◌}
use Rattle.refusal.specs.Table.{told}
use Rattle.refusal.specs.declared.Refusal.{Refusal}
use Rattle.refusal.proofs.Steps.{test_accepted}
use Rattle.grid.specs.Every.{every}
use Rattle.grid.specs.Lists.{overwritten}
use Rattle.grid.specs.LossMap.{LossMap, CountsWithin, map_left}
use Rattle.grid.specs.Map.{valid_entries}
use Rattle.grid.specs.declared.Grid.{Grid}
use Rattle.grid.proofs.Every.{every_same, every_at}
use Rattle.grid.proofs.Lists.{tabulate_at, length_tabulate}
use Rattle.listing_lines.specs.Lines.{lines}
use Rattle.listing_lines.specs.declared.Row.{Row}
use Rattle.load.specs.declared.runs.Runs.{Runs}
use Rattle.load.specs.Axes.{GridFits, IsGrid}
use Rattle.load.specs.Rows.{row_at, first_run}
use Rattle.load.specs.Load.{rows_of, run_count, whole_runs, map_said, entries_check, map_check, load}
use Rattle.load.specs.Runs.{kept_loss, RunsOf}
use Rattle.load.specs.Answers.{AllRead, WritesEntries, Loads}
use Rattle.load.proofs.Counting.{last_run_is}
use Rattle.load.proofs.Loaded.{WholeRuns, runs_are_whole, loaded_valid}

-- ---- how many runs there are
no_runs : (rows : List Row) → length rows ≡ 0 → run_count rows ≡ 0
unfolding run_count first_run
no_runs [] none = refl
no_runs (row ∷ rows) none = absurd (omega (arith, none))

pub run_count_is : (rows : List Row) (runs : Runs) → RunsOf rows runs → run_count rows ≡ runs.run_count
unfolding run_count first_run
run_count_is rows runs c =
    ⊎_elim
    (λ l. rw (c.divided, ← c.first_run) (div-mul-add runs.run_count runs.first_run runs.last_run l))
    (λ none. no_runs rows none ∙ omega (arith, c.few, none))
    c.begun

pub whole_runs_is : (rows : List Row) (runs : Runs) → RunsOf rows runs
    → ((runs.last_run == 0) && leb 2 runs.run_count && leb runs.run_count 32 && leb 2 runs.first_run && leb runs.first_run 64) ≡ whole_runs rows
unfolding whole_runs
whole_runs_is rows runs c = rw (last_run_is rows runs c, ← (run_count_is rows runs c), c.first_run) refl

pub same_map : (a b : LossMap) → a.speeds ≡ b.speeds → a.torques ≡ b.torques → a.entries ≡ b.entries → a ≡ b
same_map a b s t e i = record { speeds = s i; torques = t i; entries = e i }

-- ---- what the answers say
module _ (text before : List ℕ) where
  pub refused_loads : (x : Refusal) (after : List ℕ) → load text (length before) ≡ refused (told x) → after ≡ before → Loads text before after (Err x)
  refused_loads x after e same = record { leaves = record { outcome = sym e; written = rw e same; counts = tt }; map = tt }

  pub accepted_loads : (grid : Grid) (after : List ℕ) → load text (length before) ≡ accepted (map_left after grid) → after ≡ overwritten (map_left after grid).entries before → CountsWithin grid
      → Loads text before after (Ok grid)
  accepted_loads grid after e written counts = record {
    leaves = record { outcome = sym e; written = rw e written; counts = counts };
    map = loaded_valid text (length before) (map_left after grid) e grid after (record { left = refl; counts = counts });
  }

pub wrong_rows : (text : List ℕ) (lent : ℕ) (t : Told) → rows_of (lines text) ≡ refused t → load text lent ≡ refused t
unfolding load
wrong_rows text lent t out = rw out refl

-- a loss as it is kept is small exactly where the loss is
small_kept : (loss : ℕ) → leb (kept_loss loss) 10000000 ≡ leb loss 10000000
small_kept loss =
    elim (dec_lt loss 4294967296) [
      | yes l ↦ let same : kept_loss loss ≡ loss = omega (arith, l) in rw same refl
      | no l ↦ let large : kept_loss loss ≡ 4294967295 = omega (arith, l) in rw (large, lt-leb loss 10000000 (omega (arith, l))) refl
    ]

small_is_kept : (loss k : ℕ) → k ≡ kept_loss loss → leb k 10000000 ≡ true → loss ≡ k
small_is_kept loss k e small =
    let least = leb-true k 10000000 small in
    elim (dec_lt loss 4294967296) [ yes l ↦ omega (arith, e, l) | no l ↦ absurd (omega (arith, e, l, least)) ]

-- ---- 10 and 11
small_is : (losses : List ℕ) → valid_entries losses (length losses) ≡ every (λ i. leb (get_or losses i 0) 10000000) (length losses)
unfolding valid_entries
small_is losses = rw (le-leb (length losses) (length losses) (le_refl (length losses))) refl

module _ (losses before : List ℕ) where
  pub too_large : valid_entries losses (length losses) ≡ false → entries_check losses (length before) ≡ refuse 10 0
  too_large out =
      let small = sym (small_is losses) ∙ out in
      rw small refl

  pub too_short : valid_entries losses (length losses) ≡ true → length before < length losses → entries_check losses (length before) ≡ refuse 11 (length losses)
  too_short valid less =
      let small = sym (small_is losses) ∙ valid in
      rw (small, lt-leb (length losses) (length before) less) refl

  pub all_written : valid_entries losses (length losses) ≡ true → length losses ≤ length before → entries_check losses (length before) ≡ accepted tt
  all_written valid enough =
      let small = sym (small_is losses) ∙ valid in
      rw (small, le-leb (length losses) (length before) enough) refl

module _ (text losses : List ℕ) (runs : Runs) (a : AllRead text runs losses) where
  pub runs_not_whole : (lent : ℕ) → whole_runs a.rows ≡ false → load text lent ≡ refuse 42 (length text)
  unfolding load
  runs_not_whole lent out = rw (a.read, out) refl

  module _ (long : length losses ≡ 2048) (full : whole_runs a.rows ≡ true) where
    f : WholeRuns a.rows
    f = runs_are_whole a.rows full

    counts_are : (run_count a.rows ≡ runs.run_count) × (first_run a.rows ≡ runs.first_run)
    counts_are = (run_count_is a.rows runs a.counted, sym a.counted.first_run)

    pub run_count_within : (2 ≤ runs.run_count) × (runs.run_count ≤ 32)
    run_count_within = (omega (arith, f.runs_least, counts_are), omega (arith, f.runs_most, counts_are))

    pub first_run_within : (2 ≤ runs.first_run) × (runs.first_run ≤ 64)
    first_run_within = (omega (arith, f.first_least, counts_are), omega (arith, f.first_most, counts_are))

    whole : length a.rows ≡ runs.run_count * runs.first_run
    whole = rw (counts_are.0, counts_are.1) at f.whole

    pub rows_within : runs.row_count ≤ 2048
    rows_within =
        omega (arith, a.counted.count, whole, mul-le-mul_right {m = runs.run_count} {n = 32} runs.first_run run_count_within.1, first_run_within)

    -- the axes
    pub speeds_are : (map_said a.rows).speeds ≡ take runs.run_count runs.speeds
    unfolding map_said
    speeds_are = same_number_lists _ _
        (omega (arith, length_tabulate (λ i. (row_at a.rows (i * first_run a.rows)).speed) (run_count a.rows), counts_are, length-take runs.run_count runs.speeds, a.counted.speed_places, run_count_within))
        (λ i l.
        let inside : i < run_count a.rows = omega (arith, l, length_tabulate (λ i. (row_at a.rows (i * first_run a.rows)).speed) (run_count a.rows)) in
        let within : i * runs.first_run < length a.rows = omega (arith, whole, counts_are, mul-le-mul_right {m = i + 1} {n = runs.run_count} runs.first_run (omega (arith, inside, counts_are)), first_run_within) in
        tabulate_at (λ i. (row_at a.rows (i * first_run a.rows)).speed) (run_count a.rows) i 0 inside
        ∙ ap (λ n. (row_at a.rows (i * n)).speed) counts_are.1
        ∙ sym (a.counted.speeds i (omega (arith, inside, f.runs_most)) within)
        ∙ sym (get_or-take runs.run_count runs.speeds i 0 (omega (arith, inside, counts_are))))

    pub torques_are : (map_said a.rows).torques ≡ take runs.first_run runs.torques
    unfolding map_said
    torques_are = same_number_lists _ _
        (omega (arith, length_tabulate (λ i. (row_at a.rows i).torque) (first_run a.rows), counts_are, length-take runs.first_run runs.torques, a.counted.torque_places, first_run_within))
        (λ i l.
        let inside : i < first_run a.rows = omega (arith, l, length_tabulate (λ i. (row_at a.rows i).torque) (first_run a.rows)) in
        tabulate_at (λ i. (row_at a.rows i).torque) (first_run a.rows) i 0 inside
        ∙ sym (a.counted.torques i (omega (arith, inside, f.first_most)) (omega (arith, inside, counts_are)))
        ∙ sym (get_or-take runs.first_run runs.torques i 0 (omega (arith, inside, counts_are))))

    -- the losses
    abbrev kept : List ℕ
    kept = take runs.row_count losses

    kept_long : length kept ≡ length a.rows
    kept_long = omega (arith, length-take runs.row_count losses, rows_within, long, a.counted.count)

    entries_long : length (map_said a.rows).entries ≡ length a.rows
    unfolding map_said
    entries_long = length_tabulate _ (length a.rows)

    kept_at : (i : ℕ) → i < length a.rows → get_or kept i 0 ≡ kept_loss (get_or (map_said a.rows).entries i 0)
    unfolding map_said
    kept_at i l =
        get_or-take runs.row_count losses i 0 (omega (arith, l, a.counted.count))
        ∙ a.kept i (omega (arith, l, rows_within, a.counted.count, long)) l
        ∙ ap kept_loss (sym (tabulate_at (λ i. (row_at a.rows i).loss) (length a.rows) i 0 l))

    pub check_is : (lent : ℕ) → entries_check kept lent ≡ entries_check (map_said a.rows).entries lent
    check_is lent =
        let small = every_same (λ i. leb (get_or kept i 0) 10000000) (λ i. leb (get_or (map_said a.rows).entries i 0) 10000000) (length a.rows) (λ i l. rw (kept_at i l) (small_kept (get_or (map_said a.rows).entries i 0))) in
        rw (kept_long, entries_long, small) refl

    pub kept_are : (lent : ℕ) → entries_check kept lent ≡ accepted tt → (map_said a.rows).entries ≡ kept
    kept_are lent e = same_number_lists _ _ (entries_long ∙ sym kept_long) (λ i l.
        let inside : i < length a.rows = omega (arith, l, entries_long) in
        let small = every_at (λ i. leb (get_or kept i 0) 10000000) (length kept) (test_accepted _ 10 0 _ tt e).0 i (omega (arith, inside, kept_long)) in
        small_is_kept _ _ (kept_at i inside) small)

    -- ---- the whole
    pub loaded_as : (lent : ℕ) (o : Outcome (Unit {0})) → map_check (map_said a.rows) lent ≡ o → load text lent ≡ (o >>= λ _. accepted (map_said a.rows))
    unfolding load
    loaded_as lent o e = rw (a.read, full, e) refl

    pub axes_refused : (lent : ℕ) (x : Refusal) → IsGrid (take runs.run_count runs.speeds) (take runs.first_run runs.torques) (Err x) → load text lent ≡ refused (told x)
    axes_refused lent x out = loaded_as lent _ (out (map_said a.rows) lent speeds_are torques_are)

    module _ (grid : Grid) (fits : GridFits (take runs.run_count runs.speeds) (take runs.first_run runs.torques) grid) where
      rest_check : (lent : ℕ) → map_check (map_said a.rows) lent ≡ entries_check kept lent
      unfolding map_check
      rest_check lent =
          rw (speeds_are, torques_are, fits.in_ranges.0, fits.in_ranges.1, fits.rise.0, fits.rise.1, fits.step) (sym (check_is lent))

      pub entries_refused : (before after : List ℕ) (x : Refusal) → WritesEntries kept before after (Err x) → Loads text before after (Err x)
      entries_refused before after x w =
          refused_loads text before x after (loaded_as (length before) _ (rest_check (length before) ∙ sym w.outcome)) w.written

      pub entries_written : (before after : List ℕ) → WritesEntries kept before after (Ok tt) → Loads text before after (Ok grid)
      entries_written before after w =
          let entries = kept_are (length before) (sym w.outcome) in
          let speeds : grid.speeds.count ≡ runs.run_count =
          sym fits.counts.speeds_length ∙ ap length fits.speeds_are ∙ omega (arith, length-take runs.run_count runs.speeds, a.counted.speed_places, run_count_within) in
          let torques : grid.torques.count ≡ runs.first_run =
          sym fits.counts.torques_length ∙ ap length fits.torques_are ∙ omega (arith, length-take runs.first_run runs.torques, a.counted.torque_places, first_run_within) in
          let points : grid.speeds.count * grid.torques.count ≡ length kept = rw (speeds, torques) (sym whole ∙ sym kept_long) in
          let left : take (grid.speeds.count * grid.torques.count) after ≡ kept = rw (points, w.written) (take-append_seam kept (drop (length kept) before)) in
          let same = same_map (map_said a.rows) (map_left after grid) (speeds_are ∙ sym fits.speeds_are) (torques_are ∙ sym fits.torques_are) (entries ∙ sym left) in
          accepted_loads text before grid after (loaded_as (length before) _ (rest_check (length before) ∙ sym w.outcome) ∙ ap (λ m. accepted m) same) (rw left w.written) fits.counts
