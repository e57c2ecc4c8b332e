-- The laws of specs/Laws. Assumes nothing.
use Prim.Native.Nat.{ℕ, zero, suc, ◌+◌, ◌-◌, ◌*◌, ◌%◌, ◌<◌}
use mathlib.Core.Path.{◌≡◌, refl, sym, ap, ◌∙◌}
use mathlib.Core.Bool.{Bool, true, false}
use mathlib.Core.List.{List, [], ◌∷◌}
use native.Mathlib.Omega.{arith}
use native.Mathlib.Decide.{ℕ_discrete}
use borrow.Author.Tests.{eq-eqb, ne_eqb, le-leb, lt-leb}
use lib.Dec.{leb}
use lib.ListN.{length, get_or, take, drop}
use lib.Seq.{take-append_seam, take_all}
use Rattle.refusal.specs.Outcome.{accepted, refuse, without_place}
use Rattle.refusal.proofs.Steps.{same_value, then_accepted, test_accepted, placed_accepted}
use Rattle.grid.specs.Axis.{◌to◌, within}
use Rattle.grid.specs.Lists.{overwritten}
use Rattle.grid.specs.Parts.{grid_of}
use Rattle.grid.specs.Rules.{InRange}
use Rattle.grid.proofs.AxisLaws.{in_range}
use Rattle.component.specs.Component.{Component, Kind, standard, measured, Rows, kind_number}
use Rattle.component.specs.Answers.{outputs_of}
use Rattle.layout.specs.Layout.{encoded, torque_bytes, torques_in}
use Rattle.rows.specs.Rows.{torque_at}
use Rattle.layout.specs.Rules.{AreBytes, rows_head, KindRules, Rules}
use Rattle.layout.proofs.FieldBytes.{torques_in_bytes, torque_bytes_back}
use Rattle.layout.proofs.LaidBytes.{laid_bytes}
use Rattle.layout.proofs.Theorems.{sound, complete}
use Rattle.map.specs.Build.{points, rows_check, map_of, build}
use Rattle.map.specs.Acceptance.{map_of_numbers}
use Rattle.numbers.specs.Check.{axle_check, axis_check, axes_check, measured_check, numbers_check}
use Rattle.numbers.specs.Says.{rows_said, says, NumbersRules, numbers_of, row_torques_of}
use Rattle.numbers.specs.declared.Numbers.{Numbers}
use Rattle.numbers.proofs.Kept.{numbers_right, numbers_accepted}
use Rattle.buffer.specs.Written.{fitted}
use Rattle.writer.specs.Written.{file_of, written, file_after}
use Rattle.writer.specs.Laws.{DataFor, ReadBack, TorquesReadBack, WrittenAgain, AcceptedOnlyWithData, AcceptedWithData, NoRoom, Alike, NotLookedAt}
use Rattle.writer.proofs.Writing.{build_of}

module _ (g : Numbers) (torques : List ℕ) where
  -- ---- numbers that are accepted
  record Passed (room n : ℕ) : Type 0 where
    numbers : numbers_check g (length torques) ≡ accepted tt
    rows : rows_check (says g torques) ≡ accepted tt
    long : length (file_of g torques) ≡ n

  passed : (room n : ℕ) → written g torques room ≡ accepted n → Passed room n
  unfolding written
  passed room n e =
      let a = then_accepted (numbers_check g (length torques)) _ n e in
      let b = then_accepted (without_place (rows_check (says g torques))) _ n a.2 in
      let c = test_accepted (leb (length (file_of g torques)) room) 30 (length (file_of g torques)) _ n b.2 in
      record { numbers = a.1; rows = placed_accepted _ _ tt b.1; long = same_value _ _ c.1 }

  -- what they are laid out as says them
  file_says : NumbersRules g torques → rows_check (says g torques) ≡ accepted tt → DataFor g torques (file_of g torques)
  file_says r rows = record {
    are_bytes = laid_bytes (says g torques) r.rules;
    read = complete (says g torques) r.rules;
    counts = r.counts;
    lent = 2048;
    map = map_of_numbers (says g torques);
    built = build_of g torques r ∙ rw rows;
  }

  -- ---- and the other way: numbers that some data says
  module _ (bytes : List ℕ) (s : DataFor g torques bytes) where
    laid : Rules (says g torques) × (file_of g torques ≡ bytes)
    laid = sound bytes (says g torques) s.are_bytes s.read

    said_rules : NumbersRules g torques
    said_rules = record { counts = s.counts; rules = laid.0 }

    rows_right : rows_check (says g torques) ≡ accepted tt
    unfolding build map_of
    rows_right =
        let c = says g torques in
        let room = test_accepted (leb (points c) s.lent) 11 (points c) _ s.map (rw s.read at s.built) in
        (then_accepted (rows_check c) _ s.map room.1).1

    -- only the room for them is left to test
    said_written : (room : ℕ) → written g torques room ≡ fitted 30 bytes room
    unfolding written
    said_written room = rw (numbers_accepted g torques said_rules, rows_right, laid.1)

pub read_back : ReadBack
read_back g torques before n fit e =
    let p = passed g torques (length before) n e in
    let rules = numbers_right g torques fit p.numbers in
    let file = file_of g torques in
    let first : take n (overwritten file before) ≡ file = rw (← p.long) (take-append_seam file (drop (length file) before)) in
    let whole : take n (file_after g torques before) ≡ file = rw e first in
    (rw whole (file_says g torques rules p.rows), rw whole (build_of g torques rules ∙ rw p.rows))

torque_there : (torques : List ℕ) (k : ℕ) → k < length torques → torque_at (torque_bytes torques) (4 * k) ≡ get_or torques k 0
unfolding torque_at encoded
torque_there [] k h = absurd (omega arith)
torque_there (torque ∷ torques) zero h = omega arith
torque_there (torque ∷ torques) (suc k) h =
    let next : 4 * suc k ≡ suc (suc (suc (suc (4 * k)))) = omega arith in
    let four : suc (suc (suc (suc (4 * k)))) + 4 - suc (suc (suc (suc (4 * k)))) ≡ 4 * k + 4 - 4 * k = omega arith in
    rw (next, four) (torque_there torques k (omega arith))

pub torques_read_back : TorquesReadBack
torques_read_back torques = (torques_in_bytes torques, torque_there torques)

pub accepted_only_with_data : AcceptedOnlyWithData
accepted_only_with_data g torques room n fit e =
    let p = passed g torques room n e in
    (file_of g torques, file_says g torques (numbers_right g torques fit p.numbers) p.rows, p.long)

pub accepted_with_data : AcceptedWithData
accepted_with_data g torques bytes before s h =
    let answer = said_written g torques bytes s (length before) ∙ rw (le-leb _ _ h) in
    (answer, rw (answer, (laid g torques bytes s).1))

pub no_room : NoRoom
no_room g torques bytes room s h = said_written g torques bytes s room ∙ rw (lt-leb _ _ h)

-- ---- the numbers of data say it
module _ (line ratio : ℕ) (speeds torques : List ℕ) where
  -- component data of a kind
  abbrev of_kind : Kind → Component
  of_kind kind = record { kind = kind; line = line; ratio = ratio; speeds = speeds; torques = torques }

  rows_said_lem : (sensors : ℕ) (rows : Rows) → AreBytes rows.bytes → length rows.bytes % 4 ≡ 0 → rows.start ≡ rows_head sensors (length speeds) (length torques) + 3
      → rows_said sensors (grid_of speeds (length speeds) torques (length torques)) (torques_in rows.bytes) ≡ rows
  rows_said_lem sensors rows are whole start =
      rw (take_all (length speeds) speeds (omega arith), take_all (length torques) torques (omega arith), torque_bytes_back rows.bytes are whole, ← start)

  says_again : (kind : Kind) → KindRules (length speeds) (length torques) kind → says (numbers_of (of_kind kind)) (row_torques_of (of_kind kind)) ≡ of_kind kind
  says_again standard r = rw (take_all (length speeds) speeds (omega arith), take_all (length torques) torques (omega arith))
  says_again (measured input [] rows) r = absurd (omega (arith, r.some_output))
  says_again (measured input (output ∷ []) rows) r =
      rw (rows_said_lem 2 rows r.are_bytes (omega (arith, r.long)) r.start, take_all (length speeds) speeds (omega arith), take_all (length torques) torques (omega arith))
  says_again (measured input (output ∷ right ∷ []) rows) r =
      rw (rows_said_lem 3 rows r.are_bytes (omega (arith, r.long)) r.start, take_all (length speeds) speeds (omega arith), take_all (length torques) torques (omega arith))
  says_again (measured input (output ∷ right ∷ more ∷ others) rows) r = absurd (omega (arith, r.most_outputs))

-- ---- what is not looked at
module _ (g h : Numbers) (torques others : List ℕ) (a : Alike g h torques others) where
  same_outputs : InRange (1 to 3) g.kind → (g.kind ≡ 1 → ⊥) → Dec (g.kind ≡ 2) → outputs_of g.kind g.output g.right ≡ outputs_of h.kind h.output h.right
  same_outputs r other (yes two) = rw (← a.kind, eq-eqb g.kind 2 two, (a.measured other).1)
  same_outputs r other (no three) =
      let is_three : g.kind ≡ 3 = omega (arith, r) in
      rw (← a.kind, ne_eqb g.kind 2 three, (a.measured other).1, a.three_sensors is_three)

  same_measured : InRange (1 to 3) g.kind → Dec (g.kind ≡ 1) → measured_check g (length torques) ≡ measured_check h (length others)
  unfolding measured_check
  same_measured r (yes one) = rw (← a.kind, eq-eqb g.kind 1 one)
  same_measured r (no other) =
      let m = a.measured other in
      rw (same_outputs r other (ℕ_discrete g.kind 2), a.kind, m.0, m.2, a.speed_count, a.torque_count)

  same_check : InRange (1 to 3) g.kind → numbers_check g (length torques) ≡ numbers_check h (length others)
  unfolding numbers_check axes_check axis_check
  same_check r =
      rw (same_measured r (ℕ_discrete g.kind 1), a.kind, a.line, a.ratio, a.speeds, a.speed_count, a.torques, a.torque_count)

  same_says : InRange (1 to 3) g.kind → Dec (g.kind ≡ 1) → says g torques ≡ says h others
  same_says r (yes one) = rw (← a.kind, eq-eqb g.kind 1 one, a.line, a.ratio, a.speeds, a.torques)
  same_says r (no other) =
      let m = a.measured other in
      rw (same_outputs r other (ℕ_discrete g.kind 2), a.kind, m.0, m.2, a.line, a.ratio, a.speeds, a.torques)

  same_written : InRange (1 to 3) g.kind → (room : ℕ) → written g torques room ≡ written h others room
  unfolding written
  same_written r room = rw (same_check r, same_says r (ℕ_discrete g.kind 1))

-- no other kind is written, whatever else there is
kind_refused : (g : Numbers) (torques : List ℕ) (room : ℕ) → within (1 to 3) g.kind ≡ false → written g torques room ≡ refuse 4 0
unfolding written numbers_check axle_check
kind_refused g torques room e = rw e

pub not_looked_at : NotLookedAt
not_looked_at g h torques others before a = go (within (1 to 3) g.kind) refl
  where
    go : (b : Bool) → within (1 to 3) g.kind ≡ b
        → (written g torques (length before) ≡ written h others (length before)) × (file_after g torques before ≡ file_after h others before)
    go true e =
        let r = in_range (1 to 3) g.kind e in
        let answer = same_written g h torques others a r (length before) in
        (answer, rw (answer, same_says g h torques others a r (ℕ_discrete g.kind 1)))
    go false e =
        let one = kind_refused g torques (length before) e in
        let other = kind_refused h others (length before) (rw (← a.kind) e) in
        (one ∙ sym other, rw (one, other))

-- ---- data written again
pub written_again : WrittenAgain
written_again bytes c lent m are read built g torques before a h =
    let r = (sound bytes c are read).0 in
    let again : says (numbers_of c) (row_torques_of c) ≡ c = says_again c.line c.ratio c.speeds c.torques c.kind r.kind in
    let data_for : DataFor (numbers_of c) (row_torques_of c) bytes = record {
      are_bytes = are;
      read = rw again read;
      counts = record {
        kind = ap (λ (d : Component). kind_number d.kind) again;
        speeds = ap length (take_all (length c.speeds) c.speeds (omega arith));
        torques = ap length (take_all (length c.torques) c.torques (omega arith));
      };
      lent = lent;
      map = m;
      built = built;
    } in
    let same = not_looked_at g (numbers_of c) torques (row_torques_of c) before a in
    let done = accepted_with_data (numbers_of c) (row_torques_of c) bytes before data_for h in
    (same.0 ∙ done.0, same.1 ∙ done.1)
