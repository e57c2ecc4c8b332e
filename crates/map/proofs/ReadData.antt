-- What the build of data that was read gives, in each of its cases. Assumes nothing.
use Prim.Native.Nat.{ℕ, ◌*◌, ◌≤◌, ◌<◌}
use mathlib.Core.Path.{◌≡◌, ap, ◌∙◌}
use mathlib.Core.List.{List}
use lib.ListN.{length, take}
use lib.Seq.{take_at}
use Rattle.std.proofs.Common.{Some, None, Result, Ok, Err}
use Rattle.refusal.specs.Outcome.{accepted, refused, first_refusal}
use Rattle.refusal.specs.Table.{told, outcome_of}
use Rattle.refusal.specs.declared.Refusal.{Refusal}
use Rattle.refusal.specs.declared.Refusal.TheVariants.{TooShort}
use Rattle.grid.specs.Lists.{joined, overwritten}
use Rattle.grid.specs.Map.{counted_numbers}
use Rattle.grid.proofs.Lists.{length_tabulate, length_joined}
use Rattle.grid.specs.LossMap.{CountsWithin, EntriesWritten}
use Rattle.component.specs.Component.{component}
use Rattle.component.specs.Answers.{component_of, output_sensors, rows_of}
use Rattle.component.specs.declared.Component.{Component}
use Rattle.component.specs.declared.Measured.{Measured}
use Rattle.rows.specs.Answers.{speed_part_check, speed_part_entries, bench_with, bench_of}
use Rattle.rows.specs.declared.Bench.{Bench}
use Rattle.rows.proofs.RowParts.{speed_size}
use Rattle.map.specs.Build.{points, entries, rows_check, build}
use Rattle.map.specs.Answers.{standard_row, BuildsEntries, Builds}
use Rattle.map.proofs.Maps.{too_few, rows_refused, rows_fine, standard_checked, standard_entries, measured_checked, measured_entries}

module _ (c : Component) (counts : CountsWithin c.grid) (torques : List ℕ) (e : torques ≡ counted_numbers c.grid.torques) where
  count_is : length torques ≡ c.grid.torques.count
  count_is = ap length e ∙ counts.torques_length

  points_are : points (component_of c) ≡ c.grid.speeds.count * length torques
  points_are = rw (counts.speeds_length, ← e)

  pub short : (before : List ℕ) → length before < c.grid.speeds.count * length torques
      → BuildsEntries before before c (Err (TooShort (c.grid.speeds.count * length torques)))
  short before h =
      let few : length before < points (component_of c) = rw points_are h in
      let m = too_few (component_of c) (length before) few in
      record { outcome = rw points_are at m; written = rw (← m) }

  module _ (before after : List ℕ) (room : c.grid.speeds.count * length torques ≤ length before) where
    -- once all rows are fine and the entries are written
    finished : (new : List ℕ) → new ≡ entries (component_of c) → length new ≡ c.grid.speeds.count * length torques → accepted tt ≡ rows_check (component_of c)
        → after ≡ overwritten new before → BuildsEntries before after c (Ok tt)
    finished new s l fine w =
        let m = rows_fine (component_of c) (length before) (rw points_are room) fine in
        let front : take (c.grid.speeds.count * c.grid.torques.count) after ≡ entries (component_of c) =
        rw w (take_at new _ _ (l ∙ ap (λ (n : ℕ). c.grid.speeds.count * n) count_is)) ∙ s in
        record { outcome = rw front m; written = rw (← m, ← s) w }

    -- ---- standard data
    pub standard_built : c.measured ≡ None → after ≡ overwritten (joined (standard_row c.line c.ratio torques) c.grid.speeds.count) before
        → BuildsEntries before after c (Ok tt)
    unfolding standard_row
    standard_built none w =
        let speeds = counted_numbers c.grid.speeds in
        let all = counted_numbers c.grid.torques in
        finished (joined (standard_row c.line c.ratio torques) c.grid.speeds.count)
        (rw (e, none, ← standard_entries c.line c.ratio speeds all, counts.speeds_length))
        (length_joined _ (length torques) _ (λ s h. length_tabulate _ (length torques)))
        (rw none (standard_checked c.line c.ratio speeds all))
        w

    -- ---- measured data
    module _ (m : Measured) (some : c.measured ≡ Some m) (b : Bench) (h : bench_of b ≡ bench_with c.ratio m.input m.output m.right) where
      checked : first_refusal (speed_part_check (bench_of b) torques m.rows.bytes.now m.rows.start) 0 c.grid.speeds.count ≡ rows_check (component_of c)
      checked =
          rw (
            some,
            h,
            e,
            ← measured_checked c.line c.ratio (counted_numbers c.grid.speeds) (counted_numbers c.grid.torques) m.input (output_sensors m.output m.right) (rows_of m.rows),
            counts.speeds_length,
          )

      written_entries : joined (speed_part_entries (bench_of b) torques m.rows.bytes.now) c.grid.speeds.count ≡ entries (component_of c)
      written_entries =
          rw (
            some,
            h,
            e,
            ← measured_entries c.line c.ratio (counted_numbers c.grid.speeds) (counted_numbers c.grid.torques) m.input (output_sensors m.output m.right) (rows_of m.rows),
            counts.speeds_length,
          )

      pub measured_built : (a : Result (Unit {0}) Refusal)
          → outcome_of a ≡ first_refusal (speed_part_check (bench_of b) torques m.rows.bytes.now m.rows.start) 0 c.grid.speeds.count
          → EntriesWritten a after (joined (speed_part_entries (bench_of b) torques m.rows.bytes.now) c.grid.speeds.count) before → BuildsEntries before after c a
      measured_built (Ok u) q w =
          finished (joined (speed_part_entries (bench_of b) torques m.rows.bytes.now) c.grid.speeds.count) written_entries (length_joined _ (length torques) _ (speed_size _ _ _ _)) (q ∙ checked) w
      measured_built (Err x) q w =
          let r = rows_refused (component_of c) (length before) (told x) (rw points_are room) (q ∙ checked) in
          record { outcome = r; written = rw (← r) w }

-- ---- the whole build

module _ (bytes before : List ℕ) where
  pub read_refused : (x : Refusal) → refused (told x) ≡ component bytes → Builds bytes before before (Err x)
  unfolding build
  read_refused x e = record { outcome = rw (← e); written = rw (← e); counts = tt }

  module _ (c : Component) (read : accepted (component_of c) ≡ component bytes) (after : List ℕ) where
    pub built_refused : (x : Refusal) → BuildsEntries before after c (Err x) → Builds bytes before after (Err x)
    unfolding build
    built_refused x b = record { outcome = rw (← read) b.outcome; written = rw (← read) b.written; counts = tt }

    pub built : CountsWithin c.grid → BuildsEntries before after c (Ok tt) → Builds bytes before after (Ok c.grid)
    unfolding build
    built counts b = record { outcome = rw (← read) b.outcome; written = rw (← read) b.written; counts = counts }
