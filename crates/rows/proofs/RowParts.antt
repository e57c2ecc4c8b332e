-- A row of a part of the rows: its refusal and its entry; and how many rows a speed has. Assumes nothing.
use Prim.Native.Nat.{ℕ, ◌+◌, ◌*◌, ◌≤◌, ◌<◌}
use mathlib.Core.Path.{◌≡◌, refl, sym}
use mathlib.Core.List.{List}
use native.Mathlib.Omega.{arith}
use native.Mathlib.Nat.{mul-le-mul_left}
use lib.ListN.{length, get_or}
use Rattle.refusal.specs.Outcome.{Outcome, accepted, refused, ◌>>=◌, Told}
use Rattle.refusal.proofs.Steps.{never, same_value}
use Rattle.grid.proofs.Lists.{length_tabulate}
use Rattle.rows.specs.Rows.{Bench, row_at, row_start}
use Rattle.rows.specs.Answers.{part_check, part_entry, speed_part_entries, row_outcome}

-- a row that is one of so many ends within all of them
pub row_ends : (length i n most : ℕ) → i < n → length * n ≤ most → length * i + length ≤ most
row_ends length i n most h k = omega (arith, mul-le-mul_left length h)

-- what comes of a row is the answer of its check, and then its entry
pub part_outcome : (bench : Bench) (torques rows : List ℕ) (place j : ℕ)
    → row_outcome (get_or torques j 0) (row_at bench rows (row_start bench j)) (place + row_start bench j) ≡ (part_check bench torques rows place j >>= λ _. accepted (part_entry bench rows j))
unfolding row_outcome part_check part_entry
part_outcome bench torques rows place j = refl

pub refused_by : (check : Outcome (Unit {0})) (entry : ℕ) (t : Told) → refused t ≡ (check >>= λ _. accepted entry) → check ≡ refused t
refused_by (accepted u) entry t e = never t entry e
refused_by (refused u) entry t e = cc

pub accepted_by : (check : Outcome (Unit {0})) (entry e : ℕ) → accepted e ≡ (check >>= λ _. accepted entry) → (check ≡ accepted tt) × (e ≡ entry)
accepted_by (accepted u) entry e h = (refl, same_value e entry h)
accepted_by (refused t) entry e h = never t e (sym h)

-- as many as there are torques
pub speed_size : (bench : Bench) (torques rows : List ℕ) (count speed : ℕ) → speed < count → length (speed_part_entries bench torques rows speed) ≡ length torques
unfolding speed_part_entries
speed_size bench torques rows count speed h = length_tabulate _ (length torques)
