-- A line says a row exactly where it is what the listing prints for it. Assumes nothing.
use Rattle.std.proofs.Common.{ℕ, ◌+◌, ◌*◌, ◌/◌, ◌%◌, ◌<◌, ◌≡◌, ◌↔◌, ◌∙◌, sym, ap, subst, Bool, true, false, ◌==◌, ◌&&◌, refl, arith, List, [], ◌∷◌, ◌++◌, Option, Some, None, length, get_or, take, drop, take-append-drop, append_assoc, eqb-true, if◌then◌else◌}
use Rattle.std.proofs.lemmas.List.{append_cancel_right}
use Rattle.std.proofs.lemmas.Bool.Decides.{nat_tests}
use Rattle.std.proofs.lemmas.List.Elements.{All-cons, All-nil}
use Rattle.std.specs.List.{prefix_len}
use lib.Seq.{take-append_seam, drop-append_seam}
use Rattle.buffer.specs.Digits.{last_digits, decimal, hundredths}
use Rattle.listing.specs.Listing.{line}
use Rattle.listing_lines.specs.declared.Row.{Row}
use Rattle.listing_lines.specs.Form.{is_digit, value, is_number, Numbered, ◌>>=◌, leading_number, after_comma, is_hundredths, trailing_hundredths, row_in}
use Rattle.listing_lines.specs.Printed.{RowText}
use Rattle.listing_lines.proofs.Values.{Digits, first_digit, later_digits, value_below}
use Rattle.listing_lines.proofs.Ends.{start_passes}
use Rattle.listing_lines.proofs.Decimals.{digit_is, decimal_are_digits, value_last, value_decimal, decimal_is_number, number_few, decimal_value, digits_back}

-- ---- options
some_same : {A : Type 0} (a b : A) → Some a ≡ Some b → a ≡ b
some_same a b e = cc

-- what a step needs, and what it then gives
then_is : {A B : Type 0} (o : Option A) (a : A) (next : A → Option B) → o ≡ Some a → (o >>= next) ≡ next a
then_is o a next e = rw e refl

record Step {A B : Type 0} (o : Option A) (next : A → Option B) (b : B) : Type 0 where
  got : A
  is : o ≡ Some got
  later : next got ≡ Some b

step : {A B : Type 0} (o : Option A) (next : A → Option B) (b : B) → (o >>= next) ≡ Some b → Step o next b
step (Some a) next b e = record { got = a; is = refl; later = e }
step None next b e = cc

-- an answer under a test
record Passed {A : Type 0} (test : Bool) (a b : A) : Type 0 where
  passed : test ≡ true
  same : a ≡ b

when_some : {A : Type 0} (test : Bool) (a b : A) → (if test then Some a else None) ≡ Some b → Passed test a b
when_some true a b e = record { passed = refl; same = some_same a b e }
when_some false a b e = cc

-- ---- a number at the start of a line
pub digits_first : (ds rest : List ℕ) → Digits ds → is_digit (get_or rest 0 0) ≡ false → prefix_len is_digit (ds ++ rest) ≡ length ds
digits_first [] [] all e = refl
digits_first [] (r ∷ rest) all e = rw e refl
digits_first (d ∷ ds) rest all e = rw (first_digit d ds all) (omega (arith, digits_first ds rest (later_digits d ds all) e))

pub number_printed : (n : ℕ) (rest : List ℕ) → n < 1000000000 → is_digit (get_or rest 0 0) ≡ false → leading_number (decimal n ++ rest) ≡ Some (record { number = n; rest = rest })
unfolding leading_number
number_printed n rest h e =
    rw (digits_first (decimal n) rest (decimal_are_digits n) e, take-append_seam, drop-append_seam, decimal_is_number n h, value_decimal n h) refl

pub record NumberRead (line : List ℕ) (n : Numbered) : Type 0 where
  pub whole : line ≡ decimal n.number ++ n.rest
  pub few : n.number < 1000000000

pub number_read : (line : List ℕ) (n : Numbered) → leading_number line ≡ Some n → NumberRead line n
unfolding leading_number
number_read line n e =
    let count = prefix_len is_digit line in
    let digits = take count line in
    let t = when_some (is_number digits) (record { number = value digits; rest = drop count line }) n e in
    let all = start_passes is_digit line in
    let number : value digits ≡ n.number = ap (λ (m : Numbered). m.number) t.same in
    let rest : drop count line ≡ n.rest = ap (λ (m : Numbered). m.rest) t.same in
    record {
      whole = rw (← number, ← rest, decimal_value digits all t.passed, take-append-drop) refl;
      few = rw number at (number_few digits all t.passed);
    }

-- ---- a comma
pub comma_printed : (rest : List ℕ) → after_comma (44 ∷ rest) ≡ Some rest
unfolding after_comma
comma_printed rest = refl

pub comma_read : (line rest : List ℕ) → after_comma line ≡ Some rest → line ≡ 44 ∷ rest
unfolding after_comma
comma_read [] rest e = cc
comma_read (c ∷ line) rest e =
    let t = when_some (c == 44) line rest e in
    let comma : c ≡ 44 = eqb-true c 44 t.passed in
    rw (comma, t.same) refl

-- ---- a point and two digits
pub hundredths_printed : (part : ℕ) → part < 100 → trailing_hundredths (46 ∷ last_digits 2 part) ≡ Some part
unfolding trailing_hundredths
hundredths_printed part h =
    rw (digit_is (part / 10), digit_is part, value_last 2 part h) refl

hundredths_rules : (count point tenths last : ℕ) → (count == 3 && point == 46 && is_digit tenths && is_digit last) ≡ true
    → (count ≡ 3) × (point ≡ 46) × (is_digit tenths ≡ true) × (is_digit last ≡ true)
hundredths_rules count point tenths last e = grind (arith, nat_tests)

pub record PartRead (line : List ℕ) (part : ℕ) : Type 0 where
  pub whole : line ≡ 46 ∷ last_digits 2 part
  pub few : part < 100

three_bytes : (line : List ℕ) → length line ≡ 3 → line ≡ get_or line 0 0 ∷ get_or line 1 0 ∷ get_or line 2 0 ∷ []
three_bytes [] e = absurd (omega arith)
three_bytes (a ∷ []) e = absurd (omega arith)
three_bytes (a ∷ b ∷ []) e = absurd (omega arith)
three_bytes (a ∷ b ∷ c ∷ []) e = refl
three_bytes (a ∷ b ∷ c ∷ d ∷ later) e = absurd (omega arith)

two_digits : (tenths last : ℕ) → is_digit tenths ≡ true → is_digit last ≡ true → Digits (tenths ∷ last ∷ [])
two_digits tenths last e f = All-cons (λ d. is_digit d ≡ true) tenths (last ∷ []) e (All-cons (λ d. is_digit d ≡ true) last [] f (All-nil (λ d. is_digit d ≡ true)))

pub hundredths_read : (line : List ℕ) (part : ℕ) → trailing_hundredths line ≡ Some part → PartRead line part
unfolding trailing_hundredths
hundredths_read line part e =
    let t = when_some (is_hundredths line) (value (drop 1 line)) part e in
    let tenths = get_or line 1 0 in
    let last = get_or line 2 0 in
    let rules = hundredths_rules (length line) (get_or line 0 0) tenths last t.passed in
    let all = two_digits tenths last rules.2 rules.3 in
    let bytes_are : line ≡ 46 ∷ tenths ∷ last ∷ [] = rw rules.1 at (three_bytes line rules.0) in
    let dropped : drop 1 line ≡ tenths ∷ last ∷ [] = ap (λ (bytes : List ℕ). drop 1 bytes) bytes_are in
    let says : value (tenths ∷ last ∷ []) ≡ part = sym (ap (λ (digits : List ℕ). value digits) dropped) ∙ t.same in
    let back : last_digits 2 (value (tenths ∷ last ∷ [])) ≡ tenths ∷ last ∷ [] = digits_back 0 0 (tenths ∷ last ∷ []) all in
    let part_back : last_digits 2 part ≡ tenths ∷ last ∷ [] = rw says at back in
    record {
      whole = bytes_are ∙ ap (λ (digits : List ℕ). 46 ∷ digits) (sym part_back);
      few = rw says at (value_below 0 (tenths ∷ last ∷ []) all);
    }

-- ---- the row
-- the line of a row, but for its line feed; the loss is so many whole Nm, and its hundredths are the last two digits of this number
abbrev pub row_text : (speed torque whole part : ℕ) → List ℕ
row_text speed torque whole part = decimal speed ++ (44 ∷ (decimal torque ++ (44 ∷ (decimal whole ++ (46 ∷ last_digits 2 part)))))

line_is : (speed torque loss : ℕ) → line speed torque loss ≡ row_text speed torque (loss / 100) loss ++ 10 ∷ []
unfolding line hundredths
line_is speed torque loss = simp append_assoc

same_text : (speed torque whole part other : ℕ) → last_digits 2 part ≡ last_digits 2 other → row_text speed torque whole part ≡ row_text speed torque whole other
same_text speed torque whole part other e = ap (λ (digits : List ℕ). decimal speed ++ (44 ∷ (decimal torque ++ (44 ∷ (decimal whole ++ (46 ∷ digits)))))) e

same_part : (whole part : ℕ) → part < 100 → last_digits 2 (100 * whole + part) ≡ last_digits 2 part
same_part whole part h =
    let tenths : (100 * whole + part) / 10 % 10 ≡ part / 10 % 10 = omega arith in
    let last : (100 * whole + part) % 10 ≡ part % 10 = omega arith in
    rw (tenths, last) refl

-- what the form still wants, step by step
abbrev after_part : (speed torque whole : ℕ) → ℕ → Option Row
after_part speed torque whole part = Some (record { speed = speed; torque = torque; loss = 100 * whole + part })

abbrev after_whole : (speed torque : ℕ) → Numbered → Option Row
after_whole speed torque whole = trailing_hundredths whole.rest >>= after_part speed torque whole.number

abbrev at_loss : (speed torque : ℕ) → List ℕ → Option Row
at_loss speed torque line = leading_number line >>= after_whole speed torque

abbrev after_torque : (speed : ℕ) → Numbered → Option Row
after_torque speed torque = after_comma torque.rest >>= at_loss speed torque.number

abbrev at_torque : (speed : ℕ) → List ℕ → Option Row
at_torque speed line = leading_number line >>= after_torque speed

abbrev after_speed : Numbered → Option Row
after_speed speed = after_comma speed.rest >>= at_torque speed.number

row_steps : (line : List ℕ) → row_in line ≡ (leading_number line >>= after_speed)
unfolding row_in
row_steps line = refl

row_says : (speed torque whole part : ℕ) → speed < 1000000000 → torque < 1000000000 → whole < 1000000000 → part < 100
    → row_in (row_text speed torque whole part) ≡ Some (record { speed = speed; torque = torque; loss = 100 * whole + part })
row_says speed torque whole part s t w p =
    let last = 46 ∷ last_digits 2 part in
    let loss = decimal whole ++ last in
    let second = decimal torque ++ (44 ∷ loss) in
    row_steps (row_text speed torque whole part)
    ∙ then_is _ (record { number = speed; rest = 44 ∷ second }) after_speed (number_printed speed (44 ∷ second) s refl)
    ∙ then_is _ second (at_torque speed) (comma_printed second)
    ∙ then_is _ (record { number = torque; rest = 44 ∷ loss }) (after_torque speed) (number_printed torque (44 ∷ loss) t refl)
    ∙ then_is _ loss (at_loss speed torque) (comma_printed loss)
    ∙ then_is _ (record { number = whole; rest = last }) (after_whole speed torque) (number_printed whole last w refl)
    ∙ then_is _ part (after_part speed torque whole) (hundredths_printed part p)

pub text_is : (text : List ℕ) (row : Row) → RowText text row → text ≡ row_text row.speed row.torque (row.loss / 100) row.loss
text_is text row r = append_cancel_right text (row_text row.speed row.torque (row.loss / 100) row.loss) (10 ∷ []) (r.printed ∙ line_is row.speed row.torque row.loss)

pub printed_reads : (text : List ℕ) (row : Row) → RowText text row → row_in text ≡ Some row
printed_reads text row r =
    let whole = row.loss / 100 in
    let part = row.loss % 100 in
    let loss : 100 * whole + part ≡ row.loss = omega arith in
    let digits : last_digits 2 row.loss ≡ last_digits 2 part = rw loss at (same_part whole part (omega arith)) in
    let reads = row_says row.speed row.torque whole part r.digits.speed r.digits.torque (omega (arith, r.digits.loss)) (omega arith) in
    let same : text ≡ row_text row.speed row.torque whole part = text_is text row r ∙ same_text row.speed row.torque whole row.loss part digits in
    rw same (rw loss at reads)

-- what was read is what is printed
printed_of : (text : List ℕ) (speed torque whole part : ℕ) → speed < 1000000000 → torque < 1000000000 → whole < 1000000000 → part < 100
    → text ≡ row_text speed torque whole part → RowText text (record { speed = speed; torque = torque; loss = 100 * whole + part })
printed_of text speed torque whole part s t w p text_is =
    let loss = 100 * whole + part in
    let front : loss / 100 ≡ whole = omega arith in
    let same : row_text speed torque (loss / 100) loss ≡ row_text speed torque whole part = rw front (same_text speed torque whole loss part (same_part whole part p)) in
    record {
      digits = record { speed = s; torque = t; loss = omega arith };
      printed = ap (λ (bytes : List ℕ). bytes ++ 10 ∷ []) (text_is ∙ sym same) ∙ sym (line_is speed torque loss);
    }

after_number : {a b : List ℕ} (n : ℕ) → a ≡ b → decimal n ++ a ≡ decimal n ++ b
after_number n e = ap (λ (rest : List ℕ). decimal n ++ rest) e

after_byte : {a b : List ℕ} (byte : ℕ) → a ≡ b → byte ∷ a ≡ byte ∷ b
after_byte byte e = ap (λ (rest : List ℕ). byte ∷ rest) e

parts_text : (text second third : List ℕ) (speed torque whole : Numbered) (part : ℕ) → NumberRead text speed → speed.rest ≡ 44 ∷ second → NumberRead second torque
    → torque.rest ≡ 44 ∷ third → NumberRead third whole → whole.rest ≡ 46 ∷ last_digits 2 part → text ≡ row_text speed.number torque.number whole.number part
parts_text text second third speed torque whole part s second_is t third_is w part_is =
    let third_text : third ≡ decimal whole.number ++ (46 ∷ last_digits 2 part) = w.whole ∙ after_number whole.number part_is in
    let second_text : second ≡ decimal torque.number ++ (44 ∷ (decimal whole.number ++ (46 ∷ last_digits 2 part))) = t.whole ∙ after_number torque.number (third_is ∙ after_byte 44 third_text) in
    s.whole ∙ after_number speed.number (second_is ∙ after_byte 44 second_text)

row_text_same : (text : List ℕ) (a b : Row) → a ≡ b → RowText text a → RowText text b
row_text_same text a b e r = subst (λ (row : Row). RowText text row) e r

pub read_is_printed : (text : List ℕ) (row : Row) → row_in text ≡ Some row → RowText text row
read_is_printed text row e =
    let speed = step (leading_number text) after_speed row (sym (row_steps text) ∙ e) in
    let second = step (after_comma speed.got.rest) (at_torque speed.got.number) row speed.later in
    let torque = step (leading_number second.got) (after_torque speed.got.number) row second.later in
    let third = step (after_comma torque.got.rest) (at_loss speed.got.number torque.got.number) row torque.later in
    let whole = step (leading_number third.got) (after_whole speed.got.number torque.got.number) row third.later in
    let part = step (trailing_hundredths whole.got.rest) (after_part speed.got.number torque.got.number whole.got.number) row whole.later in
    let speed_is = number_read text speed.got speed.is in
    let second_is = comma_read speed.got.rest second.got second.is in
    let torque_is = number_read second.got torque.got torque.is in
    let third_is = comma_read torque.got.rest third.got third.is in
    let whole_is = number_read third.got whole.got whole.is in
    let part_is = hundredths_read whole.got.rest part.got part.is in
    let text_is = parts_text text second.got third.got speed.got torque.got whole.got part.got speed_is second_is torque_is third_is whole_is part_is.whole in
    let reads = printed_of text speed.got.number torque.got.number whole.got.number part.got speed_is.few torque_is.few whole_is.few part_is.few text_is in
    let found : Row = record { speed = speed.got.number; torque = torque.got.number; loss = 100 * whole.got.number + part.got } in
    row_text_same text found row (some_same found row part.later) reads

pub row_exactly : (text : List ℕ) (row : Row) → (row_in text ≡ Some row) ↔ RowText text row
row_exactly text row = (read_is_printed text row, printed_reads text row)
