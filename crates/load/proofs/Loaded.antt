-- What is loaded is a map, and listed again it is the text that it was loaded from, without the blanks at both ends of each line. Assumes nothing.
use Rattle.std.proofs.Common.{◌≡◌, ◌∙◌, ◌+◌, ◌-◌, ◌*◌, ◌/◌, ◌%◌, ◌≤◌, ◌<◌, ◌&&◌, ◌==◌, ℕ, Bool, true, false, refl, sym, ap, subst, arith, List, [], ◌∷◌, ◌++◌, length, get_or, take, Option, Some, None, All, leb, eqb-true, leb-true, div-add-mod', length-take, if◌then◌else◌}
use Rattle.std.specs.Str.{bytes_eq}
use Rattle.std.proofs.lemmas.Bool.{and_parts}
use Rattle.std.proofs.lemmas.Nat.{mod-mul-add}
use Rattle.std.proofs.lemmas.List.{get_or-take}
use Rattle.std.proofs.lemmas.List.Elements.{All-cons}
use Rattle.std.proofs.lemmas.Slice.Eq.{bytes_eq-Decides}
use Rattle.refusal.specs.Outcome.{accepted, refusal, require}
use Rattle.refusal.proofs.Steps.{never, same_value, then_accepted, test_accepted, require_accepted}
use Rattle.grid.specs.Every.{every}
use Rattle.grid.specs.Axis.{◌to◌, rises, first_step}
use Rattle.grid.specs.Lists.{joined}
use Rattle.grid.specs.LossMap.{LossMap}
use Rattle.grid.specs.Map.{valid_map, counted_numbers}
use Rattle.grid.specs.Rules.{InRange, AxisRules, FirstStep, MapRules}
use Rattle.grid.specs.declared.Grid.{Grid}
use Rattle.grid.specs.declared.Range.{Range}
use Rattle.grid.proofs.AxisLaws.{in_range, rises_next}
use Rattle.grid.proofs.Every.{every_at}
use Rattle.grid.proofs.Lists.{tabulate_at, length_tabulate, joined_same}
use Rattle.grid.proofs.Map.{map_of_lem}
use Rattle.grid.proofs.Points.{row_within}
use Rattle.buffer.specs.Bytes.{bytes}
use Rattle.listing.specs.Listing.{header, line, line_at, row, rows, listing}
use Rattle.listing_lines.specs.Blanks.{trimmed}
use Rattle.listing_lines.specs.Form.{row_in}
use Rattle.listing_lines.specs.Lines.{Line, lines}
use Rattle.listing_lines.proofs.Forms.{read_is_printed}
use Rattle.listing_lines.specs.declared.Row.{Row}
use Rattle.load.specs.Laws.{IsEnded, AllEnded, Holds, LoadedListing}
use Rattle.load.specs.Load.{rows_of, run_count, whole_runs, map_said, all_within, all_rise, map_check, load}
use Rattle.load.specs.Rows.{row_at, first_run, last_run, row_of, rows_after}
use Rattle.load.specs.Unpadded.{unpadded_lines, unpadded}
use Rattle.load.proofs.Lists.{joined_front, joined_flat}
use Rattle.load.specs.Regular.{Regular}
use Rattle.load.proofs.Regular.{AreRowsOf, accepted_regular, accepted_read}

-- ---- what a text that loads passed
-- its first line is the header, and the others are the rows
pub record HeaderAndRows (ls : List Line) (all : List Row) : Type 0 where
  pub first : Line
  pub later : List Line
  pub whole : ls ≡ first ∷ later
  pub ended : first.ended ≡ true
  pub title : trimmed first.bytes ≡ header
  pub regular : Regular all
  pub read : AreRowsOf later all

pub header_and_rows : (ls : List Line) (all : List Row) → rows_of ls ≡ accepted all → HeaderAndRows ls all
unfolding rows_of
header_and_rows [] all e = never (refusal 40 0) all e
header_and_rows (first ∷ later) all e =
    let at = length first.bytes + 1 in
    let test = test_accepted (first.ended && bytes_eq (trimmed first.bytes) header) 40 0 (rows_after [] at later) all e in
    let both = and_parts first.ended (bytes_eq (trimmed first.bytes) header) test.0 in
    record {
      first = first;
      later = later;
      whole = refl;
      ended = both.0;
      title = (bytes_eq-Decides (trimmed first.bytes) header).0 both.1;
      regular = accepted_regular at later all test.1;
      read = accepted_read at later all test.1;
    }

-- the runs are whole, and as many and as long as they may be
pub record WholeRuns (all : List Row) : Type 0 where
  pub whole : length all ≡ run_count all * first_run all
  pub runs_least : 2 ≤ run_count all
  pub runs_most : run_count all ≤ 32
  pub first_least : 2 ≤ first_run all
  pub first_most : first_run all ≤ 64

pub runs_are_whole : (all : List Row) → whole_runs all ≡ true → WholeRuns all
unfolding whole_runs run_count last_run
runs_are_whole all e =
    let n = first_run all in
    let m = length all / n in
    let last = length all % n == 0 in
    let d = and_parts (last && leb 2 m && leb m 32 && leb 2 n) (leb n 64) e in
    let c = and_parts (last && leb 2 m && leb m 32) (leb 2 n) d.0 in
    let b = and_parts (last && leb 2 m) (leb m 32) c.0 in
    let a = and_parts last (leb 2 m) b.0 in
    record {
      whole = omega (arith, div-add-mod' (length all) n, eqb-true (length all % n) 0 a.0);
      runs_least = leb-true _ _ a.1;
      runs_most = leb-true _ _ b.1;
      first_least = leb-true _ _ c.1;
      first_most = leb-true _ _ d.1;
    }

-- the axes and entries keep their rules
pub record Checked (m : LossMap) (lent : ℕ) : Type 0 where
  pub speeds : all_within (1 to 3000) m.speeds ≡ true
  pub torques : all_within (0 to 50000) m.torques ≡ true
  pub speeds_rise : all_rise m.speeds ≡ true
  pub torques_rise : all_rise m.torques ≡ true
  pub step : first_step m.torques ≡ true
  pub small : every (λ i. leb (get_or m.entries i 0) 10000000) (length m.entries) ≡ true
  pub enough : length m.entries ≤ lent

enough : (needed lent : ℕ) → require (leb needed lent) 11 needed ≡ accepted tt → needed ≤ lent
enough needed lent e = leb-true needed lent (require_accepted (leb needed lent) (refusal 11 needed) e)

pub map_is_checked : (m : LossMap) (lent : ℕ) → map_check m lent ≡ accepted tt → Checked m lent
unfolding map_check
map_is_checked m lent e =
    let ranges = test_accepted (all_within (1 to 3000) m.speeds && all_within (0 to 50000) m.torques) 4 0 _ tt e in
    let rise = test_accepted (all_rise m.speeds && all_rise m.torques) 5 0 _ tt ranges.1 in
    let step = test_accepted (first_step m.torques) 6 0 _ tt rise.1 in
    let small = test_accepted (every (λ i. leb (get_or m.entries i 0) 10000000) (length m.entries)) 10 0 _ tt step.1 in
    let both = and_parts (all_within (1 to 3000) m.speeds) (all_within (0 to 50000) m.torques) ranges.0 in
    let both_rise = and_parts (all_rise m.speeds) (all_rise m.torques) rise.0 in
    record {
      speeds = both.0;
      torques = both.1;
      speeds_rise = both_rise.0;
      torques_rise = both_rise.1;
      step = step.0;
      small = small.0;
      enough = enough (length m.entries) lent small.1;
    }

pub record Loaded (text : List ℕ) (lent : ℕ) (m : LossMap) : Type 0 where
  pub all : List Row
  pub said : map_said all ≡ m
  pub parts : HeaderAndRows (lines text) all
  pub full : WholeRuns all
  pub checked : Checked m lent

pub what_is_loaded : (text : List ℕ) (lent : ℕ) (m : LossMap) → load text lent ≡ accepted m → Loaded text lent m
unfolding load
what_is_loaded text lent m e =
    let first = then_accepted (rows_of (lines text)) _ m e in
    let all = first.0 in
    let test = test_accepted (whole_runs all) 42 (length text) _ m first.2 in
    let check = then_accepted (map_check (map_said all) lent) _ m test.1 in
    let said : map_said all ≡ m = same_value (map_said all) m check.2 in
    record {
      all = all;
      said = said;
      parts = header_and_rows (lines text) all first.1;
      full = runs_are_whole all test.0;
      checked = subst (λ m. Checked m lent) said (map_is_checked (map_said all) lent check.1);
    }

-- ---- it is a map
-- the first of some numbers, by another name
part_at : (count : ℕ) (ns part : List ℕ) → take count ns ≡ part → (i : ℕ) → i < count → get_or part i 0 ≡ get_or ns i 0
part_at count ns part is i inside = ap (λ l. get_or l i 0) (sym is) ∙ get_or-take count ns i 0 inside

-- an axis, the numbers of which were checked
axis_rules : (range : Range) (most : ℕ) (ns : List ℕ) (count : ℕ) (part : List ℕ) → take count ns ≡ part → length part ≡ count → 2 ≤ count → count ≤ most
    → all_within range part ≡ true → all_rise part ≡ true → AxisRules range most ns count
axis_rules range most ns count part is long least few ranges rise = record {
  at_least = least;
  at_most = few;
  ranges = λ i inside. subst (InRange range) (at i inside) (in_range range (get_or part i 0) (every_at _ (length part) ranges i (omega arith)));
  rising = λ i inside.
      let up = rises_next part i (every_at (rises part) (length part) rise (i + 1) (omega arith)) in
      omega (arith, up, at i (omega arith), at (i + 1) inside);
}
  where
    at : (i : ℕ) → i < count → get_or part i 0 ≡ get_or ns i 0
    at = part_at count ns part is

first_step_same : (ns part : List ℕ) → ((i : ℕ) → i < 2 → get_or part i 0 ≡ get_or ns i 0) → first_step part ≡ true → FirstStep ns
unfolding first_step
first_step_same ns part at step = omega (arith, leb-true _ _ step, at 0 (omega arith), at 1 (omega arith))

-- what the caller holds, said by the map that was loaded
module _ (grid : Grid) (entries : List ℕ) (m : LossMap) (holds : Holds m grid entries) where
  speeds_are : counted_numbers grid.speeds ≡ m.speeds
  speeds_are = ap (λ (m : LossMap). m.speeds) holds.left

  torques_are : counted_numbers grid.torques ≡ m.torques
  torques_are = ap (λ (m : LossMap). m.torques) holds.left

  entries_are : take (grid.speeds.count * grid.torques.count) entries ≡ m.entries
  entries_are = ap (λ (m : LossMap). m.entries) holds.left

  speed_count : grid.speeds.count ≡ length m.speeds
  speed_count = sym holds.counts.speeds_length ∙ ap length speeds_are

  torque_count : grid.torques.count ≡ length m.torques
  torque_count = sym holds.counts.torques_length ∙ ap length torques_are

  held_is_map : 2 ≤ length m.speeds → 2 ≤ length m.torques → length m.entries ≡ length m.speeds * length m.torques → (lent : ℕ) → Checked m lent → MapRules grid entries
  held_is_map speeds torques long lent checked = record {
    axes = record {
      speeds = axis_rules (1 to 3000) 32 _ _ m.speeds speeds_are (sym speed_count) (omega (arith, speed_count)) holds.counts.speeds checked.speeds checked.speeds_rise;
      torques = axis_rules (0 to 50000) 64 _ _ m.torques torques_are (sym torque_count) (omega (arith, torque_count)) holds.counts.torques checked.torques checked.torques_rise;
      step = first_step_same grid.torques.numbers m.torques
          (λ i inside. part_at grid.torques.count grid.torques.numbers m.torques torques_are i (omega (arith, torque_count))) checked.step;
    };
    enough = omega (arith, length-take points entries, ap length entries_are, all_held);
    small = λ k inside.
        omega (arith, part_at points entries m.entries entries_are k inside, leb-true _ _ (every_at _ (length m.entries) checked.small k (omega (arith, all_held))));
  }
    where
      points : ℕ
      points = grid.speeds.count * grid.torques.count

      all_held : grid.speeds.count * grid.torques.count ≡ length m.entries
      all_held = rw (speed_count, torque_count) (sym long)

-- the map that rows say
module _ (all : List Row) where
  pub said_speeds : length (map_said all).speeds ≡ run_count all
  unfolding map_said
  said_speeds = length_tabulate _ (run_count all)

  pub said_torques : length (map_said all).torques ≡ first_run all
  unfolding map_said
  said_torques = length_tabulate _ (first_run all)

  pub said_entries : length (map_said all).entries ≡ length all
  unfolding map_said
  said_entries = length_tabulate _ (length all)

  said_speed : (i : ℕ) → i < run_count all → get_or (map_said all).speeds i 0 ≡ (row_at all (i * first_run all)).speed
  unfolding map_said
  said_speed i inside = tabulate_at (λ i. (row_at all (i * first_run all)).speed) (run_count all) i 0 inside

  said_torque : (j : ℕ) → j < first_run all → get_or (map_said all).torques j 0 ≡ (row_at all j).torque
  unfolding map_said
  said_torque j inside = tabulate_at (λ j. (row_at all j).torque) (first_run all) j 0 inside

  said_loss : (k : ℕ) → k < length all → get_or (map_said all).entries k 0 ≡ (row_at all k).loss
  unfolding map_said
  said_loss k inside = tabulate_at (λ k. (row_at all k).loss) (length all) k 0 inside

pub loaded_valid : (text : List ℕ) (lent : ℕ) (m : LossMap) → load text lent ≡ accepted m → (grid : Grid) (entries : List ℕ) → Holds m grid entries
    → valid_map grid entries ≡ true
loaded_valid text lent m e grid entries holds =
    let loaded = what_is_loaded text lent m e in
    let all = loaded.all in
    let full = loaded.full in
    let speeds : length m.speeds ≡ run_count all = ap (λ (m : LossMap). length m.speeds) (sym loaded.said) ∙ said_speeds all in
    let torques : length m.torques ≡ first_run all = ap (λ (m : LossMap). length m.torques) (sym loaded.said) ∙ said_torques all in
    let long : length m.entries ≡ length all = ap (λ (m : LossMap). length m.entries) (sym loaded.said) ∙ said_entries all in
    map_of_lem grid entries
    (held_is_map grid entries m holds (omega arith) (omega arith) (long ∙ full.whole ∙ sym (rw (speeds, torques) refl)) lent loaded.checked)

-- ---- listed again it is the text
-- the line of a row
abbrev row_line : List Row → ℕ → List ℕ
row_line all k = line (row_at all k).speed (row_at all k).torque (row_at all k).loss

-- the lines of the points, one speed after the other, are those of the rows
module _ (all : List Row) (regular : Regular all) (full : WholeRuns all) (grid : Grid) (entries : List ℕ) (holds : Holds (map_said all) grid entries) where
  runs : grid.speeds.count ≡ run_count all
  runs = speed_count grid entries (map_said all) holds ∙ said_speeds all

  width : grid.torques.count ≡ first_run all
  width = torque_count grid entries (map_said all) holds ∙ said_torques all

  held_speed : (i : ℕ) → i < run_count all → get_or grid.speeds.numbers i 0 ≡ (row_at all (i * first_run all)).speed
  held_speed i inside =
      sym (part_at _ _ _ (speeds_are grid entries (map_said all) holds) i (omega (arith, runs))) ∙ said_speed all i inside

  held_torque : (j : ℕ) → j < first_run all → get_or grid.torques.numbers j 0 ≡ (row_at all j).torque
  held_torque j inside =
      sym (part_at _ _ _ (torques_are grid entries (map_said all) holds) j (omega (arith, width))) ∙ said_torque all j inside

  held_loss : (k : ℕ) → k < run_count all * first_run all → get_or entries k 0 ≡ (row_at all k).loss
  held_loss k inside =
      let points : grid.speeds.count * grid.torques.count ≡ run_count all * first_run all = rw (runs, width) refl in
      sym (part_at _ _ _ (entries_are grid entries (map_said all) holds) k (omega (arith, points))) ∙ said_loss all k (omega (arith, full.whole))

  module _ (i j : ℕ) (below : i < run_count all) (inside : j < first_run all) where
    at_inside : i * first_run all + j < run_count all * first_run all
    at_inside = omega (arith, row_within i (run_count all) (first_run all) below)

    row_speed : get_or grid.speeds.numbers i 0 ≡ (row_at all (i * first_run all + j)).speed
    row_speed =
        let start : i * first_run all + j - (i * first_run all + j) % first_run all ≡ i * first_run all = omega (arith, mod-mul-add i (first_run all) j inside) in
        held_speed i below ∙ ap (λ k. (row_at all k).speed) (sym start) ∙ sym (regular.speeds (i * first_run all + j) (omega (arith, full.whole, at_inside)))

    row_torque : get_or grid.torques.numbers j 0 ≡ (row_at all (i * first_run all + j)).torque
    row_torque =
        held_torque j inside ∙ ap (λ k. (row_at all k).torque) (sym (mod-mul-add i (first_run all) j inside))
        ∙ sym (regular.torques (i * first_run all + j) (omega (arith, full.whole, at_inside)))

    point_line : line_at (get_or grid.speeds.numbers i 0) grid.torques.numbers entries (i * first_run all) j ≡ row_line all (i * first_run all + j)
    point_line = rw (row_speed, row_torque, held_loss (i * first_run all + j) at_inside) refl

  rows_listed : rows grid.speeds.numbers grid.speeds.count grid.torques.numbers grid.torques.count entries ≡ joined (row_line all) (length all)
  unfolding rows row
  rows_listed =
      rw (runs, width)
      (joined_same _ _ (run_count all) (λ i below. joined_same _ _ (first_run all) (λ j inside. point_line i j below inside))
      ∙ joined_flat (λ i j. row_line all (i * first_run all + j)) (row_line all) (first_run all) (run_count all) (λ i j l. refl) ∙ ap (joined (row_line all)) (sym full.whole))

-- the lines with the form of rows have their line feeds
has_form : (ended : Bool) (row : Option Row) (next : Row) → (if ended then row else None) ≡ Some next → (ended ≡ true) × (row ≡ Some next)
has_form true row next e = (refl, e)
has_form false row next e = absurd (cc)

row_has_form : (one : Line) (next : Row) → row_of one ≡ Some next → (one.ended ≡ true) × (row_in (trimmed one.bytes) ≡ Some next)
unfolding row_of
row_has_form one next e = has_form one.ended (row_in (trimmed one.bytes)) next e

-- the first line and its row, and those after them
first_read : (one : Line) (ls : List Line) (next : Row) (all : List Row) → AreRowsOf (one ∷ ls) (next ∷ all) → (row_of one ≡ Some next) × AreRowsOf ls all
first_read one ls next all read = (cc, cc)

rows_ended : (ls : List Line) (all : List Row) → AreRowsOf ls all → All IsEnded ls
rows_ended [] all read = λ k d inside. absurd (omega arith)
rows_ended (one ∷ ls) [] read = absurd (cc)
rows_ended (one ∷ ls) (next ∷ all) read =
    let both = first_read one ls next all read in
    All-cons IsEnded one ls (row_has_form one next both.0).0 (rows_ended ls all both.1)

pub loaded_ended : (text : List ℕ) (lent : ℕ) (m : LossMap) → load text lent ≡ accepted m → AllEnded text
loaded_ended text lent m e =
    let loaded = what_is_loaded text lent m e in
    let parts = loaded.parts in
    subst (All IsEnded) (sym parts.whole) (All-cons IsEnded parts.first parts.later parts.ended (rows_ended parts.later loaded.all parts.read))

-- ---- listed again
row_unpadded : (one : Line) (next : Row) → row_of one ≡ Some next → trimmed one.bytes ++ bytes "\n" ≡ line next.speed next.torque next.loss
row_unpadded one next e = (read_is_printed (trimmed one.bytes) next (row_has_form one next e).1).printed

rows_unpadded : (ls : List Line) (all : List Row) → AreRowsOf ls all → unpadded_lines ls ≡ joined (row_line all) (length all)
unfolding unpadded_lines joined
rows_unpadded [] [] read = refl
rows_unpadded [] (next ∷ all) read = cc
rows_unpadded (one ∷ ls) [] read = cc
rows_unpadded (one ∷ ls) (next ∷ all) read =
    let both = first_read one ls next all read in
    rw (row_unpadded one next both.0, rows_unpadded ls all both.1) (sym (joined_front (row_line (next ∷ all)) (length all)))

pub listed_again : (text : List ℕ) (lent : ℕ) (m : LossMap) → load text lent ≡ accepted m → (grid : Grid) (entries : List ℕ) → Holds m grid entries
    → listing grid entries ≡ unpadded text
unfolding listing unpadded unpadded_lines
listed_again text lent m e grid entries holds =
    let loaded = what_is_loaded text lent m e in
    let all = loaded.all in
    let parts = loaded.parts in
    let held : Holds (map_said all) grid entries = subst (λ m. Holds m grid entries) (sym loaded.said) holds in
    rw (parts.whole, parts.title, rows_unpadded parts.later all parts.read)
    (ap (λ l. header ++ bytes "\n" ++ l) (rows_listed all parts.regular loaded.full grid entries held))

pub loaded_listing : LoadedListing
loaded_listing text lent m e grid entries holds = record {
  map = loaded_valid text lent m e grid entries holds;
  ended = loaded_ended text lent m e;
  same = sym (listed_again text lent m e grid entries holds);
}
