-- What is left of a line without its blanks, and that the text of a row is a line without any at its ends. Assumes nothing.
use Rattle.std.proofs.Common.{ℕ, ◌+◌, ◌-◌, ◌/◌, ◌%◌, ◌≤◌, ◌<◌, ◌≡◌, ◌⊎◌, inl, inr, ◌∙◌, sym, ap, true, false, ◌==◌, refl, arith, List, [], ◌∷◌, ◌++◌, All, length, get_or, take, drop, get_or-take, get_or-drop, length-drop, length-take-le, length-append, take_all, take-append-drop, eq-zero-or-pos, zero-le, le_refl, append_assoc}
use lib.Seq.{get_or-append_seam}
use Rattle.std.specs.List.{prefix_len, suffix_len}
use Rattle.std.proofs.lemmas.Bool.Decides.{nat_tests}
use Rattle.std.proofs.lemmas.List.{get_or_append_left}
use Rattle.std.proofs.lemmas.List.Elements.{All-append, All-cons}
use Rattle.std.proofs.lemmas.List.Sums.{prefix_len_is, prefix_len_stops, suffix_len_is}
use Rattle.buffer.specs.Digits.{last_digits, decimal}
use Rattle.listing_lines.specs.declared.Row.{Row}
use Rattle.listing_lines.specs.Blanks.{is_blank, trimmed}
use Rattle.listing_lines.specs.Form.{is_digit}
use Rattle.listing_lines.specs.Printed.{RowText, TrimmedPart}
use Rattle.listing_lines.proofs.Values.{Digits}
use Rattle.listing_lines.proofs.Decimals.{decimal_are_digits, digit_is, last_are_digits, decimal_least}
use Rattle.listing_lines.proofs.Ends.{start_passes, end_passes, end_stops}
use Rattle.listing_lines.proofs.Forms.{row_text, text_is}

-- ---- a line without its blanks
first_after : (line : List ℕ) (n : ℕ) → 0 < n → n ≤ length line - prefix_len is_blank line → is_blank (get_or (take n (drop (prefix_len is_blank line) line)) 0 0) ≡ false
first_after line n h l =
    let count = prefix_len is_blank line in
    let here : count + 0 ≡ count = omega arith in
    rw (get_or-take n (drop count line) 0 0 h, get_or-drop count line 0 0, here) (prefix_len_stops is_blank line 0 (omega arith))

pub trimmed_part : (line : List ℕ) → TrimmedPart line (trimmed line)
unfolding trimmed
trimmed_part line =
    let count = prefix_len is_blank line in
    let rest = drop count line in
    let n = length rest - suffix_len is_blank rest in
    let long : length (take n rest) ≡ n = length-take-le n rest (omega arith) in
    record {
      front = take count line;
      back = drop n rest;
      whole = rw append_assoc (sym (ap (λ (later : List ℕ). take count line ++ later) (take-append-drop n rest) ∙ take-append-drop count line));
      front_blank = start_passes is_blank line;
      back_blank = end_passes is_blank rest;
      first = elim (eq-zero-or-pos n) [
        | inl e ↦ inl (ap (λ (k : ℕ). take k rest) e)
        | inr p ↦ inr (first_after line n p (omega (arith, length-drop count line)))
      ];
      last = elim (eq-zero-or-pos n) [
        | inl e ↦ inl (ap (λ (k : ℕ). take k rest) e)
        | inr p ↦ inr (rw (long, get_or-take n rest (n - 1) 0 (omega arith)) (end_stops is_blank rest (omega arith)))
      ];
    }

same_inside : (part : List ℕ) → is_blank (get_or part 0 0) ≡ false → is_blank (get_or part (length part - 1) 0) ≡ false → trimmed part ≡ part
unfolding trimmed
same_inside part first last =
    let none : prefix_len is_blank part ≡ 0 = prefix_len_is is_blank part 0 0 zero-le (λ k l. absurd (omega arith)) (λ _. first) in
    let after : suffix_len is_blank part ≡ length part - length part = suffix_len_is is_blank part (length part) 0 (le_refl _) (λ k h l. absurd (omega arith)) (λ _. last) in
    rw none (take_all _ part (omega (arith, after)))

-- a part with no blank at its ends is left as it is
pub trimmed_same : (part : List ℕ) → (part ≡ [] ⊎ (is_blank (get_or part 0 0) ≡ false)) → (part ≡ [] ⊎ (is_blank (get_or part (length part - 1) 0) ≡ false)) → trimmed part ≡ part
unfolding trimmed
trimmed_same part (inl e) last = rw e refl
trimmed_same part (inr first) (inl e) = rw e refl
trimmed_same part (inr first) (inr last) = same_inside part first last

-- ---- the text of a row
digit_not_blank : (d : ℕ) → is_digit d ≡ true → is_blank d ≡ false
digit_not_blank d e = grind (arith, nat_tests)

digit_no_feed : (d : ℕ) → is_digit d ≡ true → (d == 10) ≡ false
digit_no_feed d e = grind (arith, nat_tests)

digits_no_feed : (ds : List ℕ) → Digits ds → All (λ byte. (byte == 10) ≡ false) ds
digits_no_feed ds all = λ k d l. digit_no_feed _ (all k d l)

row_first : (speed torque whole part : ℕ) → speed < 1000000000 → is_blank (get_or (row_text speed torque whole part) 0 0) ≡ false
row_first speed torque whole part h =
    let least = decimal_least speed h in
    rw (get_or_append_left (decimal speed) _ 0 0 least) (digit_not_blank (get_or (decimal speed) 0 0) (decimal_are_digits speed 0 0 least))

row_last : (speed torque whole part : ℕ) → is_blank (get_or (row_text speed torque whole part) (length (row_text speed torque whole part) - 1) 0) ≡ false
row_last speed torque whole part =
    let before = decimal speed ++ (44 ∷ (decimal torque ++ (44 ∷ (decimal whole ++ (46 ∷ ((48 + part / 10 % 10) ∷ [])))))) in
    let last = 48 + part % 10 in
    let split : row_text speed torque whole part ≡ before ++ (last ∷ []) = simp append_assoc in
    let long : length (before ++ (last ∷ [])) - 1 ≡ length before = omega (arith, length-append before (last ∷ [])) in
    rw (split, long, get_or-append_seam before last [] 0) (digit_not_blank last (digit_is part))

-- it begins and ends with a digit
pub row_text_trimmed : (text : List ℕ) (row : Row) → RowText text row → trimmed text ≡ text
row_text_trimmed text row r =
    let whole = row.loss / 100 in
    rw (text_is text row r) (trimmed_same (row_text row.speed row.torque whole row.loss) (inr (row_first row.speed row.torque whole row.loss r.digits.speed)) (inr (row_last row.speed row.torque whole row.loss)))

-- no byte of it is a line feed
number_then : (n byte : ℕ) (later : List ℕ) → (byte == 10) ≡ false → All (λ b. (b == 10) ≡ false) later → All (λ b. (b == 10) ≡ false) (decimal n ++ (byte ∷ later))
number_then n byte later e all =
    All-append (λ b. (b == 10) ≡ false) _ _ (digits_no_feed (decimal n) (decimal_are_digits n)) (All-cons (λ b. (b == 10) ≡ false) byte later e all)

pub row_text_one_line : (text : List ℕ) (row : Row) → RowText text row → All (λ byte. (byte == 10) ≡ false) text
row_text_one_line text row r =
    let last = digits_no_feed (last_digits 2 row.loss) (last_are_digits 2 row.loss) in
    rw (text_is text row r) (number_then row.speed 44 _ refl (number_then row.torque 44 _ refl (number_then (row.loss / 100) 46 _ refl last)))
