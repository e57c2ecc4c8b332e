-- What is kept of the rows is right after each row. Assumes nothing.
use Rattle.std.proofs.Common.{◌≡◌, ◌≢◌, ◌⊎◌, ◌∙◌, ◌+◌, ◌-◌, ◌*◌, ◌%◌, ◌≤◌, ◌<◌, ◌==◌, inl, inr, ℕ, zero, suc, true, false, refl, sym, ap, arith, List, [], ◌∷◌, ◌++◌, length, get_or, drop, eqb-true, eq-eqb, ne_eqb, mod-eq_of_lt, ⊎_elim, eq-zero-or-pos}
use Rattle.std.specs.Prelude.{if◌then◌else◌}
use Rattle.std.proofs.lemmas.Bool.{cases_Bool, true≢false, lt-ltb, le-ltb}
use Rattle.std.proofs.lemmas.Bool.Decides.{nat_tests}
use Rattle.std.proofs.lemmas.List.{get_or-set_same, get_or-set_other, length-set, length_push}
use native.Mathlib.Decide.{dec_lt}
use native.Mathlib.Nat.{zero-mul, suc-mul}
use Rattle.std.proofs.Math.Nat.{mul-add-mod_self_right, zero-mod, mul-le-mul_right}
use Rattle.listing_lines.specs.declared.Row.{Row}
use Rattle.listing_lines.specs.Lines.{Line, lines}
use Rattle.load.specs.declared.runs.Runs.{Runs}
use Rattle.load.specs.Rows.{row_at, first_run, last_run, in_first_run, in_later_run, follows}
use Rattle.load.specs.Runs.{kept_in, with_first_run_row, with_later_run_row, RunsOf}
use Rattle.load.specs.Answers.{RunBefore}
use Rattle.load.proofs.Regular.{first_run_grows, first_run_stays, first_run_all, first_run_most, first_run_speed, first_follows, not_first, later_speed, later_follows, regular_next, kept, added}

-- ---- what is kept in a place
pub kept_here : (places : List ℕ) (place n : ℕ) → place < length places → get_or (kept_in places place n) place 0 ≡ n
unfolding kept_in
kept_here places place n inside = rw (lt-ltb _ _ inside) (get_or-set_same places place n 0 inside)

pub kept_elsewhere : (places : List ℕ) (place n i : ℕ) → i ≢ place → get_or (kept_in places place n) i 0 ≡ get_or places i 0
unfolding kept_in
kept_elsewhere places place n i other =
    elim (dec_lt place (length places)) [
      | yes l ↦ rw (lt-ltb _ _ l) (get_or-set_other places place i n 0 other)
      | no l ↦ rw (le-ltb place (length places) (omega arith)) refl
    ]

pub kept_length : (places : List ℕ) (place n : ℕ) → length (kept_in places place n) ≡ length places
unfolding kept_in
kept_length places place n =
    elim (dec_lt place (length places)) [
      | yes l ↦ rw (lt-ltb _ _ l) (length-set places place n)
      | no l ↦ rw (le-ltb place (length places) (omega arith)) refl
    ]

-- ---- the count of the last run
mod_is : (a b c : ℕ) → c < b → (a * b + c) % b ≡ c
mod_is a b c l = mul-add-mod_self_right a b c ∙ mod-eq_of_lt {n = c} {m = b} l

rest_is : (rows : List Row) (runs : Runs) → RunsOf rows runs → runs.last_run ≡ length rows % first_run rows
rest_is rows runs c =
    ⊎_elim
    (λ l. rw (← c.first_run, c.divided) (sym (mod_is runs.run_count runs.first_run runs.last_run l)))
    (λ none. rw none (omega (arith, c.divided, none, zero-mod (first_run rows))))
    c.begun

pub last_run_is : (rows : List Row) (runs : Runs) → RunsOf rows runs → runs.last_run ≡ last_run rows
unfolding last_run
last_run_is rows runs c = rest_is rows runs c

pub same_or_not : (i k : ℕ) → (i ≡ k) ⊎ (i ≢ k)
same_or_not i k = ⊎_elim (λ on. inl (eqb-true i k on)) (λ off. inr (λ e. true≢false (sym (eq-eqb i k e) ∙ off))) (cases_Bool (i == k))

-- the count of the last run, and of the whole ones, after one row more
below_other : (last size : ℕ) → last < size → (last + 1 == size) ≡ false → last + 1 < size
below_other last size l off = grind (arith, nat_tests)

module _ (size count last : ℕ) (l : last < size) where
  abbrev count_after : ℕ
  count_after = if last + 1 == size then count + 1 else count

  abbrev last_after : ℕ
  last_after = if last + 1 == size then 0 else last + 1

  whole_after : count * size + last + 1 ≡ count_after * size + last_after
  whole_after = ⊎_elim (λ on. rw on (omega (arith, eqb-true _ _ on))) (λ off. rw off (omega arith)) (cases_Bool (last + 1 == size))

  begun_after : last_after < size
  begun_after = ⊎_elim (λ on. rw on (omega (arith, l))) (λ off. rw off (below_other last size l off)) (cases_Bool (last + 1 == size))

  few_after : count_after ≤ count + 1
  few_after = ⊎_elim (λ on. rw on (omega arith)) (λ off. rw off (omega arith)) (cases_Bool (last + 1 == size))

pub begun_of : (rows : List Row) (runs : Runs) → RunsOf rows runs → 0 < length rows → runs.last_run < runs.first_run
begun_of rows runs c some = ⊎_elim (λ l. l) (λ none. absurd (omega (arith, none, some))) c.begun

-- the start of a run that is not the last one stands before it
earlier : (i count size last all : ℕ) → last < size → all ≡ count * size + last → i * size < all + 1 → i ≢ count → i * size < all
earlier i count size last all l whole inside other =
    elim (dec_lt i count) [
      | yes less ↦ omega (arith, whole, mul-le-mul_right {m = i + 1} {n = count} size (omega arith))
      | no more ↦
          let above : count + 1 ≤ i = omega (arith, more, other) in
          absurd (omega (arith, whole, inside, l, mul-le-mul_right {m = count + 1} {n = i} size above))
    ]

-- ---- one row more
module _ (rows : List Row) (runs : Runs) (next : Row) (c : RunsOf rows runs) where
  abbrev after : List Row
  after = rows ++ (next ∷ [])

  -- the last row is the next one
  speed_last : next.speed ≡ (row_at after (length after - 1)).speed
  speed_last = ap (λ (row : Row). row.speed) (sym (added rows next (length after - 1) (omega (arith, length_push rows next))))

  -- in the first run
  module _ (on : in_first_run rows next ≡ true) where
    all : first_run rows ≡ length rows
    all = first_run_all rows next on

    grows : first_run after ≡ first_run rows + 1
    grows = first_run_grows rows next on

    first_speed : next.speed ≡ (row_at after 0).speed
    first_speed =
        ap (λ (row : Row). row.speed) (sym (added rows next (length rows) refl)) ∙ first_run_speed after (length rows) (omega (arith, grows, all))

    torque_at : (i : ℕ) → i < 64 → i < runs.first_run + 1 → get_or (kept_in runs.torques runs.row_count next.torque) i 0 ≡ (row_at after i).torque
    torque_at i few inside =
        elim (dec_lt i runs.first_run) [
          | yes l ↦ kept_elsewhere _ _ _ i (λ e. omega (arith, e, l, c.count, c.first_run, all)) ∙ c.torques i few l ∙ ap (λ (row : Row). row.torque) (sym (kept rows next i (omega (arith, l, c.first_run, all))))
          | no l ↦
              let here : i ≡ runs.row_count = omega (arith, l, inside, c.count, c.first_run, all) in
              rw here (kept_here runs.torques runs.row_count next.torque (omega (arith, here, few, c.torque_places))) ∙ ap (λ (row : Row). row.torque) (sym (added rows next i (omega (arith, here, c.count))))
        ]

    speed_at : (i : ℕ) → i < 32 → i * (runs.first_run + 1) < length after → get_or (kept_in runs.speeds 0 next.speed) i 0 ≡ (row_at after (i * (runs.first_run + 1))).speed
    speed_at zero few inside = kept_here runs.speeds 0 next.speed (omega (arith, c.speed_places)) ∙ rw zero-mul first_speed
    speed_at (suc i) few inside = absurd (omega (arith, inside, length_push rows next, c.first_run, all, suc-mul i (runs.first_run + 1)))

    pub counted_first : RunsOf after (with_first_run_row runs next)
    counted_first = record {
      regular = regular_next rows next c.regular (first_follows rows next on);
      count = omega (arith, c.count, length_push rows next);
      first_run = omega (arith, c.first_run, grows);
      divided = omega (arith, length_push rows next, c.first_run, all);
      begun = inl (omega arith);
      few = omega (arith, length_push rows next);
      last_speed = λ _. speed_last;
      speeds = speed_at;
      torques = torque_at;
      speed_places = kept_length runs.speeds 0 next.speed ∙ c.speed_places;
      torque_places = kept_length runs.torques runs.row_count next.torque ∙ c.torque_places;
    }

  -- in a later run
  module _ (off : in_first_run rows next ≡ false) (fits : in_later_run rows next ≡ true) where
    stays : first_run after ≡ first_run rows
    stays = first_run_stays rows next off

    some : 0 < length rows
    some = not_first rows next off

    begun : runs.last_run < runs.first_run
    begun = begun_of rows runs c some

    old_speed : (k : ℕ) → k < length rows → (row_at rows k).speed ≡ (row_at after k).speed
    old_speed k l = ap (λ (row : Row). row.speed) (sym (kept rows next k l))

    -- the run that the next row stands in begins with its speed
    run_speed : next.speed ≡ (row_at after (runs.run_count * runs.first_run)).speed
    run_speed =
        ⊎_elim
        (λ none. ap (λ (row : Row). row.speed) (sym (added rows next (runs.run_count * runs.first_run) (omega (arith, c.divided, none)))))
        (λ more.
        let start : length rows - length rows % first_run rows ≡ runs.run_count * runs.first_run = omega (arith, c.divided, rest_is rows runs c) in
        later_speed rows next fits (rw (rest_is rows runs c) at more) ∙ rw start (old_speed (runs.run_count * runs.first_run) (omega (arith, c.divided, more))))
        (eq-zero-or-pos runs.last_run)

    later_speed_at : (i : ℕ) → i < 32 → i * runs.first_run < length after → get_or (kept_in runs.speeds runs.run_count next.speed) i 0 ≡ (row_at after (i * runs.first_run)).speed
    later_speed_at i few inside =
        ⊎_elim
        (λ here. rw here (kept_here runs.speeds runs.run_count next.speed (omega (arith, here, few, c.speed_places)) ∙ run_speed))
        (λ other.
        let before : i * runs.first_run < length rows = earlier i runs.run_count runs.first_run runs.last_run (length rows) begun c.divided (omega (arith, inside, length_push rows next)) other in
        kept_elsewhere runs.speeds runs.run_count next.speed i other ∙ c.speeds i few before ∙ old_speed (i * runs.first_run) before)
        (same_or_not i runs.run_count)

    pub counted_later : RunsOf after (with_later_run_row runs next)
    counted_later = record {
      regular = regular_next rows next c.regular (later_follows rows next fits);
      count = omega (arith, c.count, length_push rows next);
      first_run = c.first_run ∙ sym stays;
      divided = omega (arith, length_push rows next, c.divided, whole_after runs.first_run runs.run_count runs.last_run begun);
      begun = inl (begun_after runs.first_run runs.run_count runs.last_run begun);
      few = omega (arith, length_push rows next, c.few, few_after runs.first_run runs.run_count runs.last_run begun);
      last_speed = λ _. speed_last;
      speeds = later_speed_at;
      torques = λ i few inside. c.torques i few inside ∙ ap (λ (row : Row). row.torque) (sym (kept rows next i (omega (arith, inside, c.first_run, first_run_most rows))));
      speed_places = kept_length runs.speeds runs.run_count next.speed ∙ c.speed_places;
      torque_places = c.torque_places;
    }

-- ---- whether the next row goes on with the first run
module _ (rows : List Row) (runs : Runs) (next : Row) (c : RunsOf rows runs) where
  pub tells_none : runs.first_run ≡ runs.row_count → runs.row_count ≡ 0 → in_first_run rows next ≡ true
  unfolding in_first_run
  tells_none all none =
      rw (eq-eqb (first_run rows) (length rows) (omega (arith, c.count, c.first_run, all)), eq-eqb (length rows) 0 (omega (arith, c.count, none))) refl

  pub tells_speed : runs.first_run ≡ runs.row_count → 0 < runs.row_count → in_first_run rows next ≡ (next.speed == runs.last_speed)
  unfolding in_first_run
  tells_speed all some =
      let same = c.last_speed (omega (arith, c.count, some)) ∙ first_run_speed rows (length rows - 1) (omega (arith, c.count, c.first_run, all, some)) in
      rw (eq-eqb (first_run rows) (length rows) (omega (arith, c.count, c.first_run, all)), ne_eqb (length rows) 0 (λ e. omega (arith, e, c.count, some)), same) refl

  pub tells_later : runs.first_run ≢ runs.row_count → in_first_run rows next ≡ false
  unfolding in_first_run
  tells_later other =
      rw (ne_eqb (first_run rows) (length rows) (λ e. other (c.first_run ∙ e ∙ sym c.count))) refl

-- ---- or with a later one, where it has to have this torque
module _ (rows : List Row) (runs : Runs) (next : Row) (c : RunsOf rows runs) (some : 0 < length rows) (torque : ℕ) (due : torque ≡ (row_at rows (last_run rows)).torque) where
  pub run_begins : next.torque ≡ torque → runs.last_run ≡ 0 → in_later_run rows next ≡ true
  unfolding in_later_run
  run_begins same none = rw (eq-eqb next.torque _ (same ∙ due), eq-eqb (last_run rows) 0 (sym (last_run_is rows runs c) ∙ none)) refl

  -- the speed of the run's first row is that of the last
  run_speed_is : 0 < runs.last_run → runs.last_speed ≡ (row_at rows (length rows - last_run rows)).speed
  run_speed_is more =
      let begun = begun_of rows runs c some in
      let last : length rows - 1 ≡ runs.run_count * runs.first_run + (runs.last_run - 1) = omega (arith, c.divided, more) in
      let rest : (length rows - 1) % first_run rows ≡ runs.last_run - 1 =
      rw (last, ← c.first_run) (mod_is runs.run_count runs.first_run (runs.last_run - 1) (omega (arith, begun, more))) in
      let start : length rows - 1 - (length rows - 1) % first_run rows ≡ length rows - last_run rows = omega (arith, rest, more, last_run_is rows runs c) in
      c.last_speed some ∙ c.regular.speeds (length rows - 1) (omega (arith, some)) ∙ ap (λ i. (row_at rows i).speed) start

  pub run_goes_on : next.torque ≡ torque → 0 < runs.last_run → in_later_run rows next ≡ (next.speed == runs.last_speed)
  unfolding in_later_run
  run_goes_on same more =
      rw (eq-eqb next.torque _ (same ∙ due), ne_eqb (last_run rows) 0 (λ e. omega (arith, e, more, last_run_is rows runs c)), run_speed_is more) refl

  pub run_breaks : next.torque ≢ torque → in_later_run rows next ≡ false
  unfolding in_later_run
  run_breaks other = rw (ne_eqb next.torque _ (λ e. other (e ∙ sym due))) refl

-- ---- the row a run before the next
module _ (ls : List Line) (rows : List Row) (next : Row) (text : List ℕ) where
  pub before_first : in_first_run rows next ≡ true → RunBefore ls rows text → RunBefore ls (rows ++ (next ∷ [])) text
  before_first on before = λ either.
      let all = first_run_all rows next on in
      let same : length rows - first_run rows ≡ length (rows ++ (next ∷ [])) - first_run (rows ++ (next ∷ [])) =
      omega (arith, all, length_push rows next, first_run_grows rows next on) in
      before (inl all) ∙ ap (λ i. drop i ls) same

  pub before_later : in_first_run rows next ≡ false → (64 < first_run rows → lines text ≡ drop (length rows + 1 - first_run rows) ls) → RunBefore ls (rows ++ (next ∷ [])) text
  before_later off later = λ either.
      let stays = first_run_stays rows next off in
      let same : length rows + 1 - first_run rows ≡ length (rows ++ (next ∷ [])) - first_run (rows ++ (next ∷ [])) = omega (arith, length_push rows next, stays) in
      let many : 64 < first_run rows = ⊎_elim (λ all. absurd (omega (arith, all, stays, length_push rows next, first_run_most rows))) (λ l. omega (arith, l, stays)) either in
      later many ∙ ap (λ i. drop i ls) same

pub neither : (rows : List Row) (next : Row) → in_first_run rows next ≡ false → in_later_run rows next ≡ false → follows rows next ≡ false
unfolding follows
neither rows next off out = rw (off, out) refl
