-- Document 01, "The map program": the bytes that it writes for component data.
use Rattle.std.specs.Prelude.{ℕ, ◌≤◌, ◌≡◌, List, length, take, Result}
use Rattle.refusal.specs.Outcome.{Outcome, accepted, refused}
use Rattle.refusal.specs.Table.{outcome_of}
use Rattle.refusal.specs.declared.Refusal.{Refusal}
use Rattle.grid.specs.Lists.{overwritten}
use Rattle.grid.specs.Parts.{grid_of}
use Rattle.grid.specs.LossMap.{LossMap, content}
use Rattle.layout.specs.Rules.{AreBytes}
use Rattle.map.specs.Build.{build}
use Rattle.listing.specs.Listing.{listing, refusal_line}
use Rattle.buffer.specs.Written.{fitted, content_of}

-- the listing of the map, or the line of the refusal
unfoldable pub report_of : Outcome LossMap → List ℕ
report_of (accepted m) = listing (grid_of m.speeds (length m.speeds) m.torques (length m.torques)) m.entries
report_of (refused t) = refusal_line t

-- what is written for data where so many entries are lent
unfoldable pub report : List ℕ → (lent : ℕ) → List ℕ
report bytes lent = report_of (build bytes lent)

-- What `write` promises for all data, lent entries and lent text: the length of the report or 11 with the bytes needed, and what both hold at exit. No report is longer than 65,536 bytes.
pub record Reports (bytes entries_before entries_after text_before text_after : List ℕ) (r : Result ℕ Refusal) : Type 0 where
  pub answer : outcome_of r ≡ fitted 11 (report bytes (length entries_before)) (length text_before)
  pub text : text_after ≡ content_of (outcome_of r) (report bytes (length entries_before)) text_before
  pub entries : entries_after ≡ content (build bytes (length entries_before)) entries_before
  pub short : length (report bytes (length entries_before)) ≤ 65536

-- what the map program writes, which has room for 2,048 entries
abbrev pub program_output : List ℕ → List ℕ
program_output bytes = report bytes 2048

-- the program looks at no more than 32,768 bytes, and what follows them changes nothing that it writes
abbrev pub LimitLosesNothing : Type 0
LimitLosesNothing = (bytes : List ℕ) → AreBytes bytes → program_output (take 32768 bytes) ≡ program_output bytes

-- how long a text is, by the answer to it: its length, or with 11 the bytes that it needs
abbrev pub text_length : Outcome ℕ → ℕ
text_length (accepted n) = n
text_length (refused t) = t.place

-- What `program_output` promises for all input, in the program's own room: the length of the output, the text that begins with it, and the entries as the build leaves them.
pub record ProgramWrites (bytes entries_before entries_after text_before text_after : List ℕ) (r : ℕ) : Type 0 where
  pub answer : r ≡ length (program_output bytes)
  pub text : text_after ≡ overwritten (program_output bytes) text_before
  pub entries : entries_after ≡ content (build bytes 2048) entries_before
  pub within : r ≤ length text_after
