-- The report of a build: the refusal's line, or the listing of the map that it left. Assumes nothing.
use Prim.Native.Nat.{ℕ, ◌+◌, ◌*◌, ◌≤◌, ◌<◌}
use mathlib.Core.Path.{◌≡◌, refl, ◌∙◌}
use mathlib.Core.Bool.{true}
use mathlib.Core.List.{List}
use native.Mathlib.Nat.{mul-le-mul}
use native.Mathlib.Omega.{arith}
use borrow.Author.Tests.{le-leb}
use lib.ListN.{length, length-append, take}
use lib.Seq.{get_or-take}
use Rattle.std.specs.Prelude.{Result}
use Rattle.refusal.specs.Outcome.{accepted, refused}
use Rattle.refusal.specs.Table.{told, outcome_of}
use Rattle.refusal.specs.declared.Refusal.{Refusal}
use Rattle.grid.specs.Map.{counted_numbers, valid_map}
use Rattle.grid.specs.Parts.{grid_of}
use Rattle.grid.specs.declared.Grid.{Grid}
use Rattle.grid.proofs.Lists.{joined_same}
use Rattle.grid.proofs.Points.{row_within}
use Rattle.grid.specs.LossMap.{CountsWithin, content, map_left}
use Rattle.component.specs.Component.{Component, component}
use Rattle.layout.specs.Rules.{AreBytes}
use Rattle.layout.proofs.Theorems.{sound}
use Rattle.layout.proofs.Lengths.{beginning_decides}
use Rattle.map.specs.Build.{points, build}
use Rattle.buffer.specs.Written.{fitted, content_of}
use Rattle.listing.specs.Listing.{listing, rows, row, row_of_speed, refusal_line, listed}
use Rattle.listing.proofs.Lengths.{listing_most}
use Rattle.report.specs.Report.{report_of, report, Reports, ProgramWrites, text_length, LimitLosesNothing}

-- ---- the listing looks at the first count numbers and entries alone
module _ (speeds torques entries : List ℕ) (m n : ℕ) where
  row_same : (i : ℕ) → i < m → row_of_speed speeds torques n entries i ≡ row_of_speed (take m speeds) (take n torques) n (take (m * n) entries) i
  unfolding row
  row_same i h =
      rw (get_or-take m speeds i 0 h)
      (joined_same _ _ n (λ j l.
      let k : i * n + j < m * n = omega (arith, row_within i m n h) in
      rw (get_or-take n torques j 0 l, get_or-take (m * n) entries (i * n + j) 0 k)))

  rows_same : rows speeds m torques n entries ≡ rows (take m speeds) m (take n torques) n (take (m * n) entries)
  unfolding rows
  rows_same = joined_same _ _ m row_same

pub listing_same : (grid : Grid) (entries : List ℕ) → CountsWithin grid
    → listing grid entries
    ≡ listing (grid_of (counted_numbers grid.speeds) (length (counted_numbers grid.speeds)) (counted_numbers grid.torques) (length (counted_numbers grid.torques))) (take (grid.speeds.count * grid.torques.count) entries)
unfolding listing
listing_same grid entries w =
    rw (w.speeds_length, w.torques_length, rows_same grid.speeds.numbers grid.torques.numbers entries grid.speeds.count grid.torques.count)

-- ---- what is reported of a build that left the entries so
module _ (bytes before after text_before text_after : List ℕ) (r : Result ℕ Refusal) (entries : after ≡ content (build bytes (length before)) before) where
  pub refusal_reported : (x : Refusal) → refused (told x) ≡ build bytes (length before)
      → outcome_of r ≡ fitted 11 (refusal_line (told x)) (length text_before)
      → text_after ≡ content_of (outcome_of r) (refusal_line (told x)) text_before
      → length (refusal_line (told x)) ≤ 53
      → Reports bytes before after text_before text_after r
  unfolding report report_of
  refusal_reported x q answer text short =
      record { answer = rw (← q) answer; text = rw (← q) text; entries = entries; short = rw (← q) (omega arith) }

  pub map_reported : (grid : Grid) → accepted (map_left after grid) ≡ build bytes (length before) → valid_map grid after ≡ true → CountsWithin grid
      → outcome_of r ≡ listed grid after (length text_before)
      → text_after ≡ content_of (outcome_of r) (listing grid after) text_before
      → Reports bytes before after text_before text_after r
  unfolding report report_of
  map_reported grid q valid counts answer text =
      let same = listing_same grid after counts in
      record {
        answer = rw valid at answer ∙ rw (← q, same) refl;
        text = rw (← q, ← same) text;
        entries = entries;
        short = rw (← q, ← same) (omega (arith, listing_most grid after valid));
      }

-- ---- with room for every report, the report is written
pub always_whole : (bytes before after text_before text_after : List ℕ) (r : Result ℕ Refusal) → Reports bytes before after text_before text_after r → length text_before ≡ 65536
    → outcome_of r ≡ accepted (length (report bytes (length before)))
always_whole bytes before after text_before text_after r h e =
    let room : length (report bytes (length before)) ≤ length text_before = omega (arith, h.short) in
    h.answer ∙ rw (le-leb _ _ room)

-- 2,048 entries are enough for every map
pub enough_entries : (bytes : List ℕ) (c : Component) → AreBytes bytes → component bytes ≡ accepted c → points c ≤ 2048
enough_entries bytes c are_bytes e =
    let rules = (sound bytes c are_bytes e).0 in
    mul-le-mul rules.speeds.at_most rules.torques.at_most

-- the program's limit is above the longest data that is accepted
pub limit_loses_nothing : LimitLosesNothing
unfolding report build
limit_loses_nothing bytes are_bytes = rw (beginning_decides bytes 32768 are_bytes (omega arith))

-- the program's own room is enough for every output
pub program_writes : (bytes before after text_before text_after : List ℕ) (r : Result ℕ Refusal) (n : ℕ) → length before ≡ 2048 → length text_before ≡ 65536
    → Reports bytes before after text_before text_after r → n ≡ text_length (outcome_of r)
    → ProgramWrites bytes before after text_before text_after n
program_writes bytes before after text_before text_after r n b t h e =
    let whole = rw b at (always_whole bytes before after text_before text_after r h t) in
    let answer : n ≡ length (report bytes 2048) = rw whole at e in
    let text = rw (whole, b) at h.text in
    record {
      answer = answer;
      text = text;
      entries = rw b at h.entries;
      within = rw (text, answer) (simp length-append (omega arith));
    }
