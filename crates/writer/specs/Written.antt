-- Document 02, C-12 and C-14: numbers written as component data into a lent buffer.
use Rattle.std.specs.Prelude.{ℕ, ◌≡◌, List, length, Result}
use Rattle.refusal.specs.Outcome.{Outcome, ◌>>=◌, without_place}
use Rattle.refusal.specs.Table.{outcome_of}
use Rattle.refusal.specs.declared.Refusal.{Refusal}
use Rattle.layout.specs.Layout.{layout}
use Rattle.map.specs.Build.{rows_check, build}
use Rattle.buffer.specs.Written.{fitted, content_of}
use Rattle.numbers.specs.Check.{numbers_check}
use Rattle.numbers.specs.Says.{says}
use Rattle.numbers.specs.declared.Numbers.{Numbers}

-- the file that the numbers are laid out as
abbrev pub file_of : Numbers → (row_torques : List ℕ) → List ℕ
file_of g row_torques = layout (says g row_torques)

-- the length of the file, with so much room for it: "the reader's 3 to 10 in the reader's order with place 0", and 31 and 32 where 4 stood for the ratio and for a sensor's number; of these 7 to 10 are the build's tests of its rows, "then 30 if the buffer is shorter than the file, with the length needed"
unfoldable pub written : Numbers → (row_torques : List ℕ) (room : ℕ) → Outcome ℕ
written g row_torques room = do
  _ ← numbers_check g (length row_torques)
  _ ← without_place (rows_check (says g row_torques))
  fitted 30 (file_of g row_torques) room

-- the lent buffer at exit: "bytes past it are untouched, and a refused call writes nothing"
abbrev pub file_after : Numbers → (row_torques before : List ℕ) → List ℕ
file_after g row_torques before = content_of (written g row_torques (length before)) (file_of g row_torques) before

-- the same of a file that was laid out, whose rows are tested by a build with so many entries lent
unfoldable pub after_build : (file : List ℕ) (lent room : ℕ) → Outcome ℕ
after_build file lent room = do
  _ ← without_place (build file lent)
  fitted 30 file room

-- what `write` promises for all numbers, torques of rows and buffers: the answer, and the whole content of the buffer at exit
pub record Writes (g : Numbers) (row_torques before after : List ℕ) (r : Result ℕ Refusal) : Type 0 where
  pub outcome : outcome_of r ≡ written g row_torques (length before)
  pub content : after ≡ file_after g row_torques before
