-- The torque that the next row of a later run has to have, as it is kept and as it is read again. Assumes nothing.
use Rattle.std.proofs.Common.{◌≡◌, ◌∙◌, ◌+◌, ◌-◌, ◌*◌, ◌%◌, ◌<◌, ℕ, sym, ap, arith, List, [], ◌∷◌, length, get_or, drop, Some}
use native.Mathlib.Decide.{dec_lt}
use Rattle.std.proofs.lemmas.List.{drop_more, get_or_past}
use Rattle.std.proofs.lemmas.Option.{none-some}
use Rattle.std.proofs.Math.Nat.{add-mul-mod_self_right}
use Rattle.std.specs.Prelude.{unwrap_or}
use Rattle.listing_lines.specs.declared.Row.{Row}
use Rattle.listing_lines.specs.Lines.{Line, open_line, lines}
use Rattle.load.specs.declared.runs.Runs.{Runs}
use Rattle.load.specs.Rows.{row_at, first_run, last_run, row_of}
use Rattle.load.specs.Regular.{Regular}
use Rattle.load.specs.Runs.{RunsOf}
use Rattle.load.specs.Answers.{RowFirst, NoRowFirst, line_at, Say}
use Rattle.load.proofs.Regular.{first_run_most}
use Rattle.load.proofs.Counting.{last_run_is, begun_of}

pub kept_torque : (rows : List Row) (runs : Runs) → RunsOf rows runs → 0 < length rows → runs.last_run < 64 → get_or runs.torques runs.last_run 0 ≡ (row_at rows (last_run rows)).torque
kept_torque rows runs c some few = c.torques runs.last_run few (begun_of rows runs c some) ∙ ap (λ i. (row_at rows i).torque) (last_run_is rows runs c)

-- a line that says a row is there
there : (ls : List Line) (rows : List Row) → Say ls rows → (i : ℕ) → i < length rows → i < length ls
unfolding row_of
there ls rows say i l = elim (dec_lt i (length ls)) [ yes inside ↦ inside | no past ↦ absurd (none-some (row_at rows i) (rw (get_or_past ls i (open_line []) (omega arith)) at (say i l))) ]

no_line_in_none : (text : List ℕ) → length text ≡ 0 → {line : Line} {later : List Line} → lines text ≡ line ∷ later → ⊥
unfolding lines
no_line_in_none [] none e = absurd (omega (arith, ap length e))
no_line_in_none (byte ∷ bytes) none e = absurd (omega (arith, none))

module _ (ls : List Line) (rows : List Row) (text : List ℕ) (say : Say ls rows) (some : 0 < length rows) (first : 0 < first_run rows)
    (stands : lines text ≡ drop (length rows - first_run rows) ls) where
  abbrev before : ℕ
  before = length rows - first_run rows

  says : row_of (line_at ls before) ≡ Some (row_at rows before)
  says = say before (omega arith)

  parts : lines text ≡ line_at ls before ∷ drop (before + 1) ls
  parts = stands ∙ drop_more ls before (open_line []) (there ls rows say before (omega arith))

  pub read_torque : Regular rows → (row : Row) (later : List ℕ) → RowFirst text row later
      → (row.torque ≡ (row_at rows (last_run rows)).torque) × (lines later ≡ drop (length rows + 1 - first_run rows) ls)
  unfolding last_run
  read_torque regular row later r =
      let same = sym r.first ∙ parts in
      let line : r.line ≡ line_at ls before = ap (λ l. get_or l 0 (open_line [])) same in
      let rest : lines later ≡ drop (before + 1) ls = ap (drop 1) same in
      let row_is : row ≡ row_at rows before = ap (λ o. unwrap_or o row) (sym r.says ∙ ap row_of line ∙ says) in
      let sum : length rows ≡ before + 1 * first_run rows = omega (arith, first_run_most rows) in
      let place : before % first_run rows ≡ length rows % first_run rows = sym (ap (λ n. n % first_run rows) sum ∙ add-mul-mod_self_right before 1 (first_run rows)) in
      let next : before + 1 ≡ length rows + 1 - first_run rows = omega (arith, first_run_most rows) in
      (ap (λ (x : Row). x.torque) row_is ∙ regular.torques before (omega arith) ∙ ap (λ i. (row_at rows i).torque) place, rest ∙ ap (λ i. drop i ls) next)

  pub row_is_there : NoRowFirst text → ⊥
  row_is_there n =
      let line : n.line ≡ line_at ls before = ap (λ l. get_or l 0 (open_line [])) (sym n.first ∙ parts) in
      none-some _ (sym n.says ∙ ap row_of line ∙ says)

  pub text_is_there : length text ≡ 0 → ⊥
  text_is_there none = no_line_in_none text none parts
