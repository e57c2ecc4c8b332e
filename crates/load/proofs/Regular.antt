-- The rows of a listing stand in equal runs: each row has the torque of the first run at its place and the speed of its run's first row. Assumes nothing.
use Rattle.std.proofs.Common.{◌≡◌, ◌∙◌, ◌+◌, ◌-◌, ◌%◌, ◌≤◌, ◌<◌, ◌&&◌, ◌||◌, ◌==◌, ℕ, suc, Bool, true, false, cond, refl, sym, ap, subst, arith, List, [], ◌∷◌, ◌++◌, append_assoc, append-nil, map, length, Option, Some, None, eqb-true, eq-eqb, ne_eqb, mod-eq_of_lt, eq-zero-or-pos, ⊎_elim, below_more}
use Rattle.std.specs.List.{prefix_len}
use Rattle.std.proofs.lemmas.Bool.{or_right, and_parts, cases_Bool, true≢false, cond-true, cond-false}
use Rattle.std.proofs.lemmas.Bool.Decides.{nat_tests}
use Rattle.std.proofs.lemmas.List.{get_or_append_left, get_or_push, length_push}
use Rattle.std.proofs.lemmas.List.Sums.{prefix_len_passes, prefix_len-le-length}
use Rattle.std.proofs.lemmas.List.Folds.{prefix_len-append}
use Rattle.refusal.specs.Outcome.{refusal, accepted}
use Rattle.refusal.proofs.Steps.{never, same_value, then_accepted, test_accepted}
use Rattle.listing_lines.specs.Lines.{Line}
use Rattle.listing_lines.specs.declared.Row.{Row}
use Rattle.load.specs.Rows.{row_at, first_run, last_run, in_first_run, in_later_run, follows, row_of, row_or_refusal, rows_after}
use Rattle.load.specs.Regular.{Regular}

-- ---- the first run, and one row more
-- one more where it goes on, and else the same
pub first_run_next : (rows : List Row) (next : Row) → first_run (rows ++ (next ∷ [])) ≡ cond (in_first_run rows next) (first_run rows + 1) (first_run rows)
unfolding first_run in_first_run
first_run_next [] next = rw (eq-eqb next.speed next.speed refl) refl
first_run_next (row ∷ rows) next =
    let same = λ (r : Row). r.speed == row.speed in
    prefix_len-append same (row ∷ rows) (next ∷ [])
    ∙ step (prefix_len same (row ∷ rows)) (length (row ∷ rows)) (length (row ∷ rows) == 0) (next.speed == row.speed) (ne_eqb (suc (length rows)) 0 (omega arith))
  where
    step : (run count : ℕ) (none same : Bool) → none ≡ false → cond (run == count) (count + cond same (1 + 0) 0) run ≡ cond (run == count && (none || same)) (run + 1) run
    step run count none same some = grind (arith, nat_tests)

pub first_run_grows : (rows : List Row) (next : Row) → in_first_run rows next ≡ true → first_run (rows ++ (next ∷ [])) ≡ first_run rows + 1
first_run_grows rows next on = first_run_next rows next ∙ cond-true _ _ _ on

pub first_run_stays : (rows : List Row) (next : Row) → in_first_run rows next ≡ false → first_run (rows ++ (next ∷ [])) ≡ first_run rows
first_run_stays rows next off = first_run_next rows next ∙ cond-false _ _ _ off

-- where it goes on, it is all rows
pub first_run_all : (rows : List Row) (next : Row) → in_first_run rows next ≡ true → first_run rows ≡ length rows
unfolding in_first_run
first_run_all rows next on = eqb-true _ _ (and_parts (first_run rows == length rows) _ on).0

-- and the row follows
pub first_follows : (rows : List Row) (next : Row) → in_first_run rows next ≡ true → follows rows next ≡ true
unfolding follows
first_follows rows next on = rw on refl

pub later_follows : (rows : List Row) (next : Row) → in_later_run rows next ≡ true → follows rows next ≡ true
unfolding follows
later_follows rows next fits = or_right (in_first_run rows next) _ fits

pub first_run_most : (rows : List Row) → first_run rows ≤ length rows
unfolding first_run
first_run_most rows = prefix_len-le-length (λ (row : Row). row.speed == (row_at rows 0).speed) rows

pub first_run_some : (rows : List Row) → 0 < length rows → 0 < first_run rows
unfolding first_run
first_run_some [] some = absurd (omega arith)
first_run_some (row ∷ rows) some = rw (eq-eqb row.speed row.speed refl) (omega arith)

-- a row that does not go on with it is not the first
pub not_first : (rows : List Row) (next : Row) → in_first_run rows next ≡ false → 0 < length rows
unfolding in_first_run first_run
not_first [] next off = absurd (true≢false off)
not_first (row ∷ rows) next off = omega arith

-- its rows have one speed
pub first_run_speed : (rows : List Row) (k : ℕ) → k < first_run rows → (row_at rows k).speed ≡ (row_at rows 0).speed
unfolding first_run
first_run_speed rows k inside =
    eqb-true _ _ (prefix_len_passes (λ (row : Row). row.speed == (row_at rows 0).speed) rows k (row_at [] 0) inside)

-- ---- the rule of the runs
pub regular_none : Regular []
regular_none = record { torques = λ k inside. absurd (omega arith); speeds = λ k inside. absurd (omega arith) }

-- rows before the next are as they were
pub kept : (rows : List Row) (next : Row) (k : ℕ) → k < length rows → row_at (rows ++ (next ∷ [])) k ≡ row_at rows k
kept rows next k inside = get_or_append_left rows (next ∷ []) (row_at [] 0) k inside

pub added : (rows : List Row) (next : Row) (k : ℕ) → k ≡ length rows → row_at (rows ++ (next ∷ [])) k ≡ next
added rows next k last = get_or_push rows next (row_at [] 0) k (sym last)

-- all rows are one run
one_run : (rows : List Row) → first_run rows ≡ length rows → Regular rows
one_run rows all = record {
  torques = λ k inside. ap (λ j. (row_at rows j).torque) (sym (same k inside));
  speeds = λ k inside.
      let start : k - k % first_run rows ≡ 0 = omega (arith, same k inside) in
      first_run_speed rows k (omega arith) ∙ ap (λ j. (row_at rows j).speed) (sym start);
}
  where
    same : (k : ℕ) → k < length rows → k % first_run rows ≡ k
    same k inside = mod-eq_of_lt {n = k} {m = first_run rows} (omega arith)

pub or_second : (a b : Bool) → (a || b) ≡ true → a ≡ false → b ≡ true
or_second true b fits off = absurd (true≢false off)
or_second false b fits off = fits

-- what a row says that stands in a later run
module _ (rows : List Row) (next : Row) (fits : in_later_run rows next ≡ true) where
  pub later_torque : next.torque ≡ (row_at rows (length rows % first_run rows)).torque
  unfolding in_later_run last_run
  later_torque = eqb-true _ _ (and_parts (next.torque == (row_at rows (length rows % first_run rows)).torque) _ fits).0

  pub later_speed : 0 < length rows % first_run rows → next.speed ≡ (row_at rows (length rows - length rows % first_run rows)).speed
  unfolding in_later_run last_run
  later_speed begun =
      let last = length rows % first_run rows in
      let either = (and_parts (next.torque == (row_at rows last).torque) _ fits).1 in
      eqb-true _ _ (or_second (last == 0) _ either (ne_eqb last 0 (omega arith)))

module _ (rows : List Row) (next : Row) (regular : Regular rows) where
  -- of all rows, where it holds of those before the next and of the next
  each : (P : ℕ → Type 0) → ((k : ℕ) → k < length rows → P k) → P (length rows) → (k : ℕ) → k < length (rows ++ (next ∷ [])) → P k
  each P before last k inside = below_more P (length rows) before last k (omega (arith, length_push rows next))

  -- the next row stands in a later run
  module _ (stays : first_run (rows ++ (next ∷ [])) ≡ first_run rows) (some : 0 < length rows) (fits : in_later_run rows next ≡ true) where
    abbrev at_torque : ℕ → ℕ
    at_torque k = (row_at (rows ++ (next ∷ [])) k).torque

    abbrev at_speed : ℕ → ℕ
    at_speed k = (row_at (rows ++ (next ∷ [])) k).speed

    -- the place in a run is within the first one
    within_first : (k : ℕ) → k % first_run rows < length rows
    within_first k = omega (arith, first_run_some rows some, first_run_most rows)

    old_torque : (k : ℕ) → k < length rows → at_torque k ≡ (row_at rows k).torque
    old_torque k inside = ap (λ (row : Row). row.torque) (kept rows next k inside)

    old_speed : (k : ℕ) → k < length rows → at_speed k ≡ (row_at rows k).speed
    old_speed k inside = ap (λ (row : Row). row.speed) (kept rows next k inside)

    all_torques : (k : ℕ) → k < length (rows ++ (next ∷ [])) → at_torque k ≡ at_torque (k % first_run rows)
    all_torques = each (λ k. at_torque k ≡ at_torque (k % first_run rows))
        (λ k inside. old_torque k inside ∙ regular.torques k inside ∙ sym (old_torque (k % first_run rows) (within_first k)))
        (ap (λ (row : Row). row.torque) (added rows next (length rows) refl) ∙ later_torque rows next fits ∙ sym (old_torque (length rows % first_run rows) (within_first (length rows))))

    last_speed : at_speed (length rows) ≡ at_speed (length rows - length rows % first_run rows)
    last_speed = ⊎_elim
        (λ none. let same : length rows ≡ length rows - length rows % first_run rows = omega arith in ap at_speed same)
        (λ begun. ap (λ (row : Row). row.speed) (added rows next (length rows) refl) ∙ later_speed rows next fits begun ∙ sym (old_speed (length rows - length rows % first_run rows) (omega arith)))
        (eq-zero-or-pos (length rows % first_run rows))

    all_speeds : (k : ℕ) → k < length (rows ++ (next ∷ [])) → at_speed k ≡ at_speed (k - k % first_run rows)
    all_speeds = each (λ k. at_speed k ≡ at_speed (k - k % first_run rows))
        (λ k inside. old_speed k inside ∙ regular.speeds k inside ∙ sym (old_speed (k - k % first_run rows) (omega arith)))
        last_speed

    later_run : Regular (rows ++ (next ∷ []))
    later_run = record {
      torques = λ k inside. all_torques k inside ∙ ap (λ n. at_torque (k % n)) (sym stays);
      speeds = λ k inside. all_speeds k inside ∙ ap (λ n. at_speed (k - k % n)) (sym stays);
    }

  pub regular_next : follows rows next ≡ true → Regular (rows ++ (next ∷ []))
  unfolding follows
  regular_next fits = ⊎_elim
      (λ on. one_run (rows ++ (next ∷ [])) (first_run_grows rows next on ∙ (omega (arith, first_run_all rows next on, length_push rows next))))
      (λ off. later_run (first_run_stays rows next off) (not_first rows next off) (or_second (in_first_run rows next) _ fits off))
      (cases_Bool (in_first_run rows next))

-- ---- rows that were accepted
-- each line has the form of its row, and there are no other rows
abbrev pub AreRowsOf : List Line → List Row → Type 0
AreRowsOf ls rows = map row_of ls ≡ map (λ (row : Row). Some row) rows

-- what the lines add to the rows before them
pub record Added (before : List Row) (ls : List Line) (rows : List Row) : Type 0 where
  pub later : List Row
  pub whole : rows ≡ before ++ later
  pub read : AreRowsOf ls later
  pub regular : Regular before → Regular rows

row_read : (at : ℕ) (row : Option Row) (next : Row) → row_or_refusal at row ≡ accepted next → row ≡ Some next
row_read at (Some row) next e = ap (λ (r : Row). Some r) (same_value row next e)
row_read at None next e = never (refusal 41 at) next e

-- one row before those that later lines add
row_added : (before : List Row) (line : Line) (next : Row) (ls : List Line) (rows : List Row) → row_of line ≡ Some next → follows before next ≡ true
    → Added (before ++ (next ∷ [])) ls rows → Added before (line ∷ ls) rows
row_added before line next ls rows is fits rest = record {
  later = next ∷ rest.later;
  whole = rest.whole ∙ append_assoc before (next ∷ []) rest.later;
  read = let read = rest.read in cc;
  regular = λ regular. rest.regular (regular_next before next regular fits);
}

pub rows_added : (before : List Row) (at : ℕ) (ls : List Line) (rows : List Row) → rows_after before at ls ≡ accepted rows → Added before ls rows
unfolding rows_after
rows_added before at [] rows e =
    let same = same_value before rows e in
    record { later = []; whole = sym same ∙ sym (append-nil before); read = refl; regular = subst Regular same }
rows_added before at (line ∷ ls) rows e =
    let row = then_accepted (row_or_refusal at (row_of line)) _ rows e in
    let test = test_accepted (follows before row.0) 42 at _ rows row.2 in
    row_added before line row.0 ls rows (row_read at (row_of line) row.0 row.1) test.0 (rows_added (before ++ (row.0 ∷ [])) (at + length line.bytes + 1) ls rows test.1)

module _ (at : ℕ) (ls : List Line) (rows : List Row) (e : rows_after [] at ls ≡ accepted rows) where
  pub accepted_regular : Regular rows
  accepted_regular = (rows_added [] at ls rows e).regular regular_none

  pub accepted_read : AreRowsOf ls rows
  accepted_read =
      let all = rows_added [] at ls rows e in
      subst (AreRowsOf ls) (sym all.whole) all.read
