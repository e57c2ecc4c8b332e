-- The rows of a text, read line by line. Assumes nothing.
use Rattle.std.proofs.Common.{◌≡◌, ◌∙◌, inr, ◌+◌, ◌-◌, ◌≤◌, ◌<◌, ℕ, true, false, refl, sym, ap, arith, List, [], ◌∷◌, ◌++◌, length, get_or, drop, Some, below_more, ⊎_elim, add-zero, mul-zero}
use Rattle.std.proofs.lemmas.List.{length_push, get_or-drop, drop-drop}
use Rattle.refusal.specs.Outcome.{accepted, refuse}
use Rattle.listing_lines.specs.declared.Row.{Row}
use Rattle.listing_lines.specs.Lines.{Line, open_line, lines}
use Rattle.load.specs.declared.runs.Runs.{Runs}
use Rattle.load.specs.Rows.{row_at, first_run, follows, row_of, rows_after}
use Rattle.load.specs.Load.{rows_of}
use Rattle.load.specs.Runs.{kept_in, kept_loss, NoRuns, RunsOf}
use Rattle.load.specs.Answers.{RowFirst, NoRowFirst, line_at, Say, RunBefore, FewRows, LossesKept, AllRead}
use Rattle.load.proofs.Regular.{regular_none, first_run_most, kept, added}
use Rattle.load.proofs.Counting.{kept_here, kept_elsewhere, kept_length, same_or_not}

none_after : (rows : List Row) (at : ℕ) (rest : List ℕ) → length rest ≡ 0 → rows_after rows at (lines rest) ≡ accepted rows
unfolding rows_after lines
none_after rows at [] none = refl
none_after rows at (byte ∷ bytes) none = absurd (omega (arith, none))

-- how far it was read: the rows before the rest of the text
pub record Reading (text rest before losses : List ℕ) (runs : Runs) : Type 0 where
  pub ls : List Line
  pub rows : List Row
  pub same : rows_of (lines text) ≡ rows_after rows (length text - length rest) (lines rest)
  pub stands : lines rest ≡ drop (length rows) ls
  pub counted : RunsOf rows runs
  pub say : Say ls rows
  pub run_before : RunBefore ls rows before
  pub kept : LossesKept rows losses
  pub few : length rows + length rest ≤ length text

pub counted_none : (runs : Runs) → NoRuns runs → RunsOf [] runs
unfolding first_run
counted_none runs n = record {
  regular = regular_none;
  count = n.rows;
  first_run = n.first_run;
  divided = rw (n.first_run, n.last_run, mul-zero) refl;
  begun = inr refl;
  few = omega (arith, n.run_count);
  last_speed = λ some. absurd (omega (arith, some));
  speeds = λ i few inside. absurd (omega (arith, inside));
  torques = λ i few inside. absurd (omega (arith, inside, n.first_run));
  speed_places = n.speed_places;
  torque_places = n.torque_places;
}

pub reading_none : (text body losses : List ℕ) (runs : Runs) → NoRuns runs → rows_of (lines text) ≡ rows_after [] (length text - length body) (lines body) → length body < length text
    → Reading text body body losses runs
unfolding first_run
reading_none text body losses runs none same shorter = record {
  ls = lines body;
  rows = [];
  same = same;
  stands = refl;
  counted = counted_none runs none;
  say = λ i inside. absurd (omega (arith, inside));
  run_before = λ _. refl;
  kept = λ i inside l. absurd (omega (arith, l));
  few = omega (arith, shorter);
}

-- a loss more
pub losses_next : (rows : List Row) (next : Row) (losses : List ℕ) → LossesKept rows losses → LossesKept (rows ++ (next ∷ [])) (kept_in losses (length rows) (kept_loss next.loss))
losses_next rows next losses before = λ i inside l.
    ⊎_elim
    (λ here. rw here (kept_here losses (length rows) (kept_loss next.loss) (omega (arith, inside, here, kept_length losses (length rows) (kept_loss next.loss)))) ∙ ap (λ (row : Row). kept_loss row.loss) (sym (added rows next i here)))
    (λ other.
    let inside_rows : i < length rows = omega (arith, l, other, length_push rows next) in
    kept_elsewhere losses (length rows) (kept_loss next.loss) i other ∙ before i (omega (arith, inside, kept_length losses (length rows) (kept_loss next.loss))) inside_rows ∙ ap (λ (row : Row). kept_loss row.loss) (sym (kept rows next i inside_rows)))
    (same_or_not i (length rows))

module _ (text rest before losses : List ℕ) (runs : Runs) (r : Reading text rest before losses runs) where
  pub few_rows : length text < 18446744073709551616 → 0 < length rest → FewRows runs
  few_rows fits more = record {
    rows = omega (arith, r.few, r.counted.count, fits, more);
    first_run = omega (arith, r.counted.first_run, r.counted.count, first_run_most r.rows);
    run_count = omega (arith, r.counted.few, r.counted.count);
    last_run = omega (arith, r.counted.divided, r.counted.count);
  }

  -- ---- the next row
  module _ (next : Row) (later : List ℕ) (first : RowFirst rest next later) where
    line_is : first.line ≡ line_at r.ls (length r.rows)
    line_is = ap (λ l. get_or l 0 (open_line [])) (sym first.first ∙ r.stands) ∙ get_or-drop (length r.rows) r.ls 0 (open_line []) ∙ ap (line_at r.ls) (add-zero (length r.rows))

    rest_is : lines later ≡ drop (length r.rows + 1) r.ls
    rest_is = ap (drop 1) (sym first.first ∙ r.stands) ∙ drop-drop 1 (length r.rows) r.ls

    says_next : Say r.ls (r.rows ++ (next ∷ []))
    says_next i inside =
        below_more (λ k. row_of (line_at r.ls k) ≡ Some (row_at (r.rows ++ (next ∷ [])) k)) (length r.rows)
        (λ k l. r.say k l ∙ ap (λ (row : Row). Some row) (sym (kept r.rows next k l)))
        (ap row_of (sym line_is) ∙ first.says ∙ ap (λ (row : Row). Some row) (sym (added r.rows next (length r.rows) refl)))
        i (omega (arith, inside, length_push r.rows next))

    at_next : rows_of (lines text) ≡ rows_after r.rows (length text - length rest) (first.line ∷ lines later)
    at_next = rw (← first.first) r.same

    pub broken : follows r.rows next ≡ false → rows_of (lines text) ≡ refuse 42 (length text - length rest)
    unfolding rows_after
    broken out = at_next ∙ rw (first.says, out) refl

    pub reading_next : (new : Runs) (after : List ℕ) → follows r.rows next ≡ true → RunsOf (r.rows ++ (next ∷ [])) new → RunBefore r.ls (r.rows ++ (next ∷ [])) after
        → Reading text later after (kept_in losses (length r.rows) (kept_loss next.loss)) new
    unfolding rows_after
    reading_next new after fits counted run_before =
        let offset : length text - length rest + length first.line.bytes + 1 ≡ length text - length later = omega (arith, first.long, r.few) in
        record {
          ls = r.ls;
          rows = r.rows ++ (next ∷ []);
          same = at_next ∙ rw (first.says, fits, offset) refl;
          stands = rest_is ∙ ap (λ k. drop k r.ls) (sym (length_push r.rows next));
          counted = counted;
          say = says_next;
          run_before = run_before;
          kept = losses_next r.rows next losses r.kept;
          few = omega (arith, r.few, first.long, length_push r.rows next);
        }

  -- ---- no row
  pub wrong : NoRowFirst rest → rows_of (lines text) ≡ refuse 41 (length text - length rest)
  unfolding rows_after
  wrong n = r.same ∙ rw (n.first, rows_after, n.says) refl

  -- ---- the end
  pub all_read : length rest ≡ 0 → AllRead text runs losses
  all_read none = record { rows = r.rows; read = r.same ∙ none_after r.rows _ rest none; counted = r.counted; kept = r.kept }
