-- What is built of data that was read: too few lent entries, standard data, and measured data row by row. Assumes nothing.
use Prim.Native.Nat.{ℕ, zero, suc, ◌+◌, ◌-◌, ◌*◌, ◌≤◌, ◌<◌}
use mathlib.Core.Path.{◌≡◌, refl, sym}
use mathlib.Core.List.{List, [], ◌∷◌}
use native.Mathlib.Omega.{arith}
use borrow.Author.Tests.{le-leb, lt-leb}
use lib.ListN.{length, drop}
use lib.Seq.{drop-drop}
use Rattle.refusal.specs.Outcome.{Told, Outcome, accepted, refused, refuse, first_refusal}
use Rattle.refusal.proofs.First.{first_of}
use Rattle.fields.specs.Bytes.{between}
use Rattle.component.specs.Component.{Component, Rows, standard, measured}
use Rattle.sensor.specs.declared.Sensor.{Sensor}
use Rattle.grid.specs.Lists.{joined}
use Rattle.rows.specs.Rows.{Bench, torque_at, outputs_at, row_at, row_start}
use Rattle.grid.proofs.Lists.{tabulate_same, joined_same}
use Rattle.map.specs.Build.{points, data_bench, entry, entry_of_kind, check, check_of_kind, speed_check, rows_check, speed_entries, entries, map_of}
use Rattle.map.specs.Answers.{standard_at, standard_row}
use Rattle.rows.specs.Answers.{part_check, part_entry, speed_part_check, speed_part_entries}

-- tests that are alike give the same first refusal
first_same : (f g : ℕ → Outcome (Unit {0})) → ((i : ℕ) → f i ≡ g i) → (i count : ℕ) → first_refusal f i count ≡ first_refusal g i count
unfolding first_refusal
first_same f g e i zero = refl
first_same f g e i (suc count) = rw (e i, first_same f g e (suc i) count)

-- fewer entries are lent than there are points
pub too_few : (c : Component) (lent : ℕ) → lent < points c → refuse 11 (points c) ≡ map_of c lent
unfolding map_of
too_few c lent h = rw (lt-leb _ _ h)

-- otherwise the rows decide
pub rows_refused : (c : Component) (lent : ℕ) (t : Told) → points c ≤ lent → refused t ≡ rows_check c → refused t ≡ map_of c lent
unfolding map_of
rows_refused c lent t h e = rw (le-leb _ _ h, ← e)

pub rows_fine : (c : Component) (lent : ℕ) → points c ≤ lent → accepted tt ≡ rows_check c
    → accepted (record { speeds = c.speeds; torques = c.torques; entries = entries c }) ≡ map_of c lent
unfolding map_of
rows_fine c lent h e = rw (le-leb _ _ h, ← e)

-- ---- standard data
module _ (line ratio : ℕ) (speeds torques : List ℕ) where
  pub standard_checked : accepted tt ≡ rows_check (record { kind = standard; line = line; ratio = ratio; speeds = speeds; torques = torques })
  unfolding rows_check speed_check check check_of_kind
  standard_checked = sym (first_of _ (length speeds) (λ i h. first_of _ (length torques) (λ j k. refl)))

  pub standard_entries : joined (standard_row line ratio torques) (length speeds) ≡ entries (record { kind = standard; line = line; ratio = ratio; speeds = speeds; torques = torques })
  unfolding entries speed_entries entry entry_of_kind standard_row standard_at
  standard_entries = refl

-- ---- measured data: a row is the same in the whole of the rows and in the part that starts with its speed
between_part : (s : List ℕ) (a x y : ℕ) → between (drop a s) x y ≡ between s (a + x) (a + y)
between_part s a x y = let z : a + y - (a + x) ≡ y - x = omega arith in rw (drop-drop x a s, z)

torque_part : (bytes : List ℕ) (first at : ℕ) → torque_at (drop first bytes) at ≡ torque_at bytes (first + at)
unfolding torque_at
torque_part bytes first at = let z : first + (at + 4) ≡ first + at + 4 = omega arith in rw (between_part bytes first at (at + 4), z)

outputs_part : (sensors : List Sensor) (bytes : List ℕ) (first at : ℕ) → outputs_at sensors (drop first bytes) at ≡ outputs_at sensors bytes (first + at)
unfolding outputs_at
outputs_part [] bytes first at = refl
outputs_part (sensor ∷ sensors) bytes first at =
    let z : first + (at + 4) ≡ first + at + 4 = omega arith in
    rw (torque_part bytes first at, outputs_part sensors bytes first (at + 4), z)

row_part : (bench : Bench) (bytes : List ℕ) (first at : ℕ) → row_at bench (drop first bytes) at ≡ row_at bench bytes (first + at)
unfolding row_at
row_part bench bytes first at =
    let z : first + (at + 4) ≡ first + at + 4 = omega arith in
    rw (torque_part bytes first at, outputs_part bench.outputs bytes first (at + 4), z)

module _ (line ratio : ℕ) (speeds torques : List ℕ) (input : Sensor) (outputs : List Sensor) (rows : Rows) where
  abbrev pub measured_says : Component
  measured_says = record { kind = measured input outputs rows; line = line; ratio = ratio; speeds = speeds; torques = torques }

  -- the bench of these data
  abbrev bench : Bench
  bench = data_bench measured_says input outputs

  starts : (i j : ℕ) → row_start bench (i * length torques) + row_start bench j ≡ row_start bench (i * length torques + j)
  starts i j = omega arith

  part_check_lem : (i j : ℕ)
      → part_check bench torques (drop (row_start bench (i * length torques)) rows.bytes) (rows.start + row_start bench (i * length torques)) j
      ≡ check_of_kind measured_says i j (measured input outputs rows)
  unfolding part_check check_of_kind
  part_check_lem i j =
      let z : rows.start + row_start bench (i * length torques) + row_start bench j ≡ rows.start + row_start bench (i * length torques + j) = omega (arith, starts i j) in
      rw (row_part bench rows.bytes (row_start bench (i * length torques)) (row_start bench j), z, starts i j)

  pub measured_checked : first_refusal (speed_part_check bench torques rows.bytes rows.start) 0 (length speeds) ≡ rows_check measured_says
  unfolding rows_check speed_check check speed_part_check
  measured_checked = first_same _ _ (λ i. first_same _ _ (λ j. part_check_lem i j) 0 (length torques)) 0 (length speeds)

  part_entry_lem : (i j : ℕ)
      → part_entry bench (drop (row_start bench (i * length torques)) rows.bytes) j ≡ entry_of_kind measured_says i j (measured input outputs rows)
  unfolding part_entry entry_of_kind
  part_entry_lem i j = rw (row_part bench rows.bytes (row_start bench (i * length torques)) (row_start bench j), starts i j)

  pub measured_entries : joined (speed_part_entries bench torques rows.bytes) (length speeds) ≡ entries measured_says
  unfolding entries speed_entries entry speed_part_entries
  measured_entries = joined_same _ _ (length speeds) (λ i h. tabulate_same _ _ (λ j. part_entry_lem i j) (length torques))
