-- A text that is, blanks at the ends of its lines aside, the listing of a map loads to this map; so does each listing that is printed. Assumes nothing.
use Rattle.std.proofs.Common.{ℕ, zero, suc, ◌+◌, ◌*◌, ◌/◌, ◌%◌, ◌<◌, ◌≡◌, ◌∙◌, ◌==◌, not, Bool, true, false, refl, sym, ap, subst, leb, arith, List, [], ◌∷◌, ◌++◌, All, Some, length, get_or, take, length-append, append_assoc, add-zero, zero-add, bytes_eq}
use Rattle.std.specs.List.{list_all}
use Rattle.std.proofs.lemmas.Bool.{cond_both, eqb-false, not-true}
use Rattle.std.proofs.lemmas.List.{append_cancel_left, take_at}
use Rattle.std.proofs.lemmas.List.Elements.{All-nil, All-cons, All-head, All-tail, All-take, All-drop, All-weaker}
use Rattle.std.proofs.lemmas.List.Recursion.{and_at}
use Rattle.std.proofs.lemmas.Nat.{div-mul-add, mod-mul-add, mod_below, div_below}
use Rattle.std.proofs.lemmas.Slice.Eq.{bytes_eq-Decides}
use Rattle.refusal.specs.Outcome.{accepted}
use Rattle.refusal.proofs.Steps.{test_accepted, same_value}
use Rattle.grid.specs.Lists.{joined}
use Rattle.grid.specs.Map.{valid_map}
use Rattle.grid.specs.Rules.{MapRules}
use Rattle.grid.specs.declared.Grid.{Grid}
use Rattle.grid.proofs.Map.{map_facts}
use Rattle.buffer.specs.Bytes.{bytes}
use Rattle.buffer.specs.Digits.{decimal, hundredths}
use Rattle.buffer.specs.Written.{fitted}
use Rattle.listing.specs.Listing.{header, line, line_at, row, rows, listing}
use Rattle.listing.proofs.Lengths.{length_listing}
use Rattle.listing_lines.specs.Lines.{Line, ended_line, with_byte, lines}
use Rattle.listing_lines.specs.Blanks.{trimmed}
use Rattle.listing_lines.specs.Printed.{FewDigits, RowText}
use Rattle.listing_lines.specs.declared.Row.{Row}
use Rattle.listing_lines.proofs.Lines.{IsNoFeed, first_is_ended}
use Rattle.listing_lines.proofs.Forms.{printed_reads}
use Rattle.listing_lines.proofs.Trimming.{row_text_trimmed, row_text_one_line}
use Rattle.load.specs.Rows.{follows, row_of, rows_after}
use Rattle.load.specs.Load.{rows_of}
use Rattle.load.specs.Unpadded.{unpadded_lines, unpadded}
use Rattle.load.specs.Laws.{IsEnded, AllEnded, ListingOf, LoadsTo, ListingLoads, PrintedLoads, WrittenLoads}
use Rattle.load.proofs.Lists.{joined_from, joined_none, joined_flat}
use Rattle.load.proofs.MapRows.{first_rows, map_point, point_follows, rows_load}

-- ---- lines
-- no line feed is in it
abbrev OneLine : List ℕ → Type 0
OneLine text = All IsNoFeed text

abbrev IsOneLine : Line → Type 0
IsOneLine l = OneLine l.bytes

-- the first line of a text is given by it
first_line_same : (a b c d : List ℕ) → OneLine a → OneLine c → a ++ bytes "\n" ++ b ≡ c ++ bytes "\n" ++ d → (a ≡ c) × (b ≡ d)
first_line_same a b c d one other same =
    let whole : ended_line a ∷ lines b ≡ ended_line c ∷ lines d =
    sym (first_is_ended a b one) ∙ ap lines (sym (append_assoc a (bytes "\n") b) ∙ same ∙ append_assoc c (bytes "\n") d) ∙ first_is_ended c d other in
    let head : ended_line a ≡ ended_line c = cc in
    let first : a ≡ c = ap (λ (l : Line). l.bytes) head in
    (first, append_cancel_left (a ++ bytes "\n") b d (same ∙ ap (λ (x : List ℕ). x ++ bytes "\n" ++ d) (sym first)))

-- the lines of a text have no line feed in them
with_byte_one : (byte : ℕ) (ls : List Line) → IsNoFeed byte → All IsOneLine ls → All IsOneLine (with_byte byte ls)
unfolding with_byte
with_byte_one byte [] none all = All-cons IsOneLine _ [] (All-cons IsNoFeed byte [] none (All-nil IsNoFeed)) (All-nil IsOneLine)
with_byte_one byte (first ∷ later) none all =
    All-cons IsOneLine _ later (All-cons IsNoFeed byte first.bytes none (All-head IsOneLine first later all)) (All-tail IsOneLine first later all)

lines_one : (text : List ℕ) → All IsOneLine (lines text)
unfolding lines
lines_one [] = All-nil IsOneLine
lines_one (byte ∷ later) =
    cond_both (byte == 10) (ended_line [] ∷ lines later) (with_byte byte (lines later)) (λ ls. All IsOneLine ls)
    (λ e. All-cons IsOneLine (ended_line []) (lines later) (All-nil IsNoFeed) (lines_one later))
    (λ e. with_byte_one byte (lines later) (eqb-false byte 10 e) (lines_one later))

trimmed_one : (text : List ℕ) → OneLine text → OneLine (trimmed text)
unfolding trimmed
trimmed_one text one = All-take IsNoFeed _ _ (All-drop IsNoFeed _ text one)

-- the byte is no line feed, as a test
no_feed : ℕ → Bool
no_feed byte = not (byte == 10)

header_one : OneLine header
unfolding header no_feed
header_one k other l = eqb-false _ 10 (not-true _ (and_at (list_all no_feed) no_feed refl (λ x xs. refl) header k other l refl))

header_trimmed : trimmed header ≡ header
unfolding header trimmed
header_trimmed = refl

-- ---- the line of a row
abbrev line_of : Row → List ℕ
line_of r = line r.speed r.torque r.loss

-- without its line feed
row_text : Row → List ℕ
row_text r = decimal r.speed ++ bytes "," ++ decimal r.torque ++ bytes "," ++ hundredths r.loss

line_is : (r : Row) → line_of r ≡ row_text r ++ bytes "\n"
unfolding line row_text
line_is r = refl

row_printed : (r : Row) → FewDigits r → RowText (row_text r) r
row_printed r few = record { digits = few; printed = sym (line_is r) }

-- the lines of so many rows from one on
abbrev rows_text : (row : ℕ → Row) (from count : ℕ) → List ℕ
rows_text row from count = joined (λ j. line_of (row (from + j))) count

-- the line of the first, and those of the others
rows_text_next : (row : ℕ → Row) (from count : ℕ) → rows_text row from (suc count) ≡ row_text (row from) ++ bytes "\n" ++ rows_text row (suc from) count
rows_text_next row from count =
    joined_from (λ k. line_of (row k)) from count ∙ ap (λ (x : List ℕ). x ++ rows_text row (suc from) count) (line_is (row from))

-- ---- the rows of a map
module _ (grid : Grid) (entries : List ℕ) (map : MapRules grid entries) where
  abbrev n : ℕ
  n = grid.torques.count

  torques_some : 0 < n
  torques_some = omega (arith, map.axes.torques.at_least)

  -- the lines of the map's rows are those of its points, speed after speed
  rows_flat : rows grid.speeds.numbers grid.speeds.count grid.torques.numbers n entries ≡ rows_text (map_point grid entries) 0 (grid.speeds.count * n)
  unfolding rows row
  rows_flat =
      joined_flat (λ i j. line_at (get_or grid.speeds.numbers i 0) grid.torques.numbers entries (i * n) j) _ n grid.speeds.count
      (λ i j l. rw (zero-add (i * n + j), div-mul-add i n j l, mod-mul-add i n j l))

  listing_is : listing grid entries ≡ header ++ bytes "\n" ++ rows_text (map_point grid entries) 0 (grid.speeds.count * n)
  unfolding listing
  listing_is = ap (λ (x : List ℕ). header ++ bytes "\n" ++ x) rows_flat

  row_few : (k : ℕ) → k < grid.speeds.count * n → FewDigits (map_point grid entries k)
  row_few k l =
      let speed = (map.axes.speeds.ranges (k / n) (div_below k n grid.speeds.count torques_some l)).1 in
      let torque = (map.axes.torques.ranges (k % n) (mod_below k n torques_some)).1 in
      record { speed = omega (arith, speed); torque = omega (arith, torque); loss = omega (arith, map.small k l) }

-- ---- texts of ended lines without blanks at their ends
record IsPrinted (text : List ℕ) : Type 0 where
  pub ended : AllEnded text
  pub same : unpadded text ≡ text

none_printed : IsPrinted []
unfolding lines unpadded unpadded_lines
none_printed = record { ended = All-nil IsEnded; same = refl }

line_printed : (first later : List ℕ) → OneLine first → trimmed first ≡ first → IsPrinted later → IsPrinted (first ++ bytes "\n" ++ later)
unfolding unpadded unpadded_lines
line_printed first later one trim rest =
    let whole : lines (first ++ bytes "\n" ++ later) ≡ ended_line first ∷ lines later =
    ap lines (append_assoc first (bytes "\n") later) ∙ first_is_ended first later one in
    record {
      ended = rw whole (All-cons IsEnded (ended_line first) (lines later) refl rest.ended);
      same = rw (whole, trim) (ap (λ (x : List ℕ). first ++ bytes "\n" ++ x) rest.same);
    }

row_one : (r : Row) → FewDigits r → OneLine (row_text r)
row_one r few =
    All-weaker (λ byte. (byte == 10) ≡ false) IsNoFeed (λ byte e. eqb-false byte 10 e) (row_text r) (row_text_one_line (row_text r) r (row_printed r few))

-- a line that is, without blanks, the line of a row
line_reads : (first : Line) (r : Row) → FewDigits r → first.ended ≡ true → trimmed first.bytes ≡ row_text r → row_of first ≡ Some r
unfolding row_of
line_reads first r few ended said = rw (ended, said) (printed_reads (row_text r) r (row_printed r few))

module _ (row : ℕ → Row) where
  -- the first line is that of the next row, and the later ones those of the rows after it
  next_line : (first : Line) (later : List Line) (from count : ℕ) → IsOneLine first → FewDigits (row from) → unpadded_lines (first ∷ later) ≡ rows_text row from (suc count)
      → (trimmed first.bytes ≡ row_text (row from)) × (unpadded_lines later ≡ rows_text row (suc from) count)
  unfolding unpadded_lines
  next_line first later from count one few said =
      first_line_same (trimmed first.bytes) (unpadded_lines later) (row_text (row from)) _ (trimmed_one first.bytes one) (row_one (row from) few) (said ∙ rows_text_next row from count)

  -- some lines are no text of no rows, and no lines are none of some
  some_lines : (first : Line) (later : List Line) (from : ℕ) → unpadded_lines (first ∷ later) ≡ rows_text row from 0 → ⊥
  unfolding unpadded_lines joined
  some_lines first later from said = omega (arith, simp length-append at (ap length said))

  no_lines : (from count : ℕ) → unpadded_lines [] ≡ rows_text row from (suc count) → ⊥
  unfolding unpadded_lines
  no_lines from count said = omega (arith, simp length-append at (ap length (said ∙ rows_text_next row from count)))

  -- the rows of such lines
  rows_read : ((k : ℕ) → follows (first_rows row k) (row k) ≡ true)
      → (ls : List Line) (from count at : ℕ) → All IsOneLine ls → All IsEnded ls → ((k : ℕ) → k < from + count → FewDigits (row k)) → unpadded_lines ls ≡ rows_text row from count
      → rows_after (first_rows row from) at ls ≡ accepted (first_rows row (from + count))
  unfolding rows_after first_rows
  rows_read follow [] from zero at one ended few said = rw add-zero
  rows_read follow [] from (suc count) at one ended few said = absurd (no_lines from count said)
  rows_read follow (first ∷ later) from zero at one ended few said = absurd (some_lines first later from said)
  rows_read follow (first ∷ later) from (suc count) at one ended few said =
      let here = few from (omega arith) in
      let parts = next_line first later from count (All-head IsOneLine first later one) here said in
      let read = line_reads first (row from) here (All-head IsEnded first later ended) parts.0 in
      let next : from + suc count ≡ suc from + count = omega arith in
      rw (read, follow from, next)
      (rows_read follow later (suc from) count (at + length first.bytes + 1) (All-tail IsOneLine first later one) (All-tail IsEnded first later ended) (λ k l. few k (omega arith)) parts.1)

  -- and their own text
  rows_printed : (from count : ℕ) → ((k : ℕ) → k < from + count → FewDigits (row k)) → IsPrinted (rows_text row from count)
  rows_printed from zero few = subst IsPrinted (joined_none _) none_printed
  rows_printed from (suc count) few =
      let here = few from (omega arith) in
      subst IsPrinted (sym (rows_text_next row from count))
      (line_printed (row_text (row from)) (rows_text row (suc from) count) (row_one (row from) here) (row_text_trimmed _ (row from) (row_printed (row from) here))
      (rows_printed (suc from) count (λ k l. few k (omega arith))))

-- ---- the listing of a map, and a text that is it but for blanks
lines_load : (grid : Grid) (entries : List ℕ) → MapRules grid entries → (ls : List Line) → All IsOneLine ls → All IsEnded ls → unpadded_lines ls ≡ listing grid entries
    → rows_of ls ≡ accepted (first_rows (map_point grid entries) (grid.speeds.count * grid.torques.count))
unfolding unpadded_lines rows_of first_rows
lines_load grid entries map [] one ended said = absurd (omega (arith, length_listing grid entries, ap length said))
lines_load grid entries map (first ∷ later) one ended said =
    let total = grid.speeds.count * grid.torques.count in
    let parts = first_line_same (trimmed first.bytes) (unpadded_lines later) header _ (trimmed_one first.bytes (All-head IsOneLine first later one)) header_one (said ∙ listing_is grid entries map) in
    let same : bytes_eq header header ≡ true = (bytes_eq-Decides header header).1 refl in
    rw (All-head IsEnded first later ended, parts.0, same)
    (rw zero-add at
    (rows_read (map_point grid entries) (point_follows grid entries map) later 0 total (length first.bytes + 1)
    (All-tail IsOneLine first later one) (All-tail IsEnded first later ended) (λ k l. row_few grid entries map k (omega arith)) parts.1))

pub listing_loads : ListingLoads
unfolding unpadded
listing_loads grid entries text is lent fits =
    let map = map_facts grid entries is.map in
    rows_load grid entries map text lent (lines_load grid entries map (lines text) (lines_one text) is.ended is.same) fits

-- ---- the printed listing itself
pub listing_is_one : (grid : Grid) (entries : List ℕ) → valid_map grid entries ≡ true → ListingOf grid entries (listing grid entries)
listing_is_one grid entries valid =
    let map = map_facts grid entries valid in
    let points = map_point grid entries in
    let printed = subst IsPrinted (sym (listing_is grid entries map))
    (line_printed header _ header_one header_trimmed (rows_printed points 0 (grid.speeds.count * grid.torques.count) (λ k l. row_few grid entries map k (omega arith)))) in
    record { map = valid; ended = printed.ended; same = printed.same }

pub printed_loads : PrintedLoads
printed_loads grid entries valid = listing_loads grid entries (listing grid entries) (listing_is_one grid entries valid)

-- and as it is written to a buffer
pub written_loads : WrittenLoads
written_loads grid entries before after n answer content =
    let text = listing grid entries in
    let valid = test_accepted (valid_map grid entries) 22 0 (fitted 11 text (length before)) n answer in
    let fits = test_accepted (leb (length text) (length before)) 11 (length text) (accepted (length text)) n valid.1 in
    let whole : take n after ≡ text = rw content (take_at text _ n (same_value (length text) n fits.1)) in
    subst (λ (t : List ℕ). LoadsTo grid entries t) (sym whole) (printed_loads grid entries valid.0)
