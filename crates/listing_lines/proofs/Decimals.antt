-- A number's decimal digits say it, and digits without leading zeros are those of what they say. Assumes nothing.
use Rattle.std.proofs.Common.{ℕ, zero, suc, max, ◌+◌, ◌-◌, ◌*◌, ◌/◌, ◌%◌, ◌^◌, ◌≤◌, ◌<◌, ◌≡◌, ◌⊎◌, inl, inr, ◌∙◌, true, ◌==◌, not, ◌&&◌, ◌||◌, leb, refl, arith, List, [], ◌∷◌, ◌++◌, length, get_or, pow-suc, mul-le-mul_right, le-leb, append_assoc, append-nil, add-zero, zero-add, eq-zero-or-pos}
use native.Mathlib.Nat.{pow-le-pow_right}
use native.Mathlib.Decide.{dec_lt}
use Rattle.std.proofs.lemmas.Bool.Decides.{nat_tests}
use Rattle.std.proofs.lemmas.List.Elements.{All-append, All-cons, All-nil}
use Rattle.buffer.specs.Digits.{last_digits, digit_count, decimal}
use Rattle.buffer.proofs.Digits.{length_digits, count_is, decimal_is}
use Rattle.listing_lines.specs.Form.{is_digit, value_after, value, is_number}
use Rattle.listing_lines.proofs.Values.{Digits, value_snoc, digit_range, digit_below, first_digit, later_digits, value_below, value_least}

-- ---- from a number to its digits
pub digit_is : (n : ℕ) → is_digit (48 + n % 10) ≡ true
digit_is n = rw (le-leb 48 (48 + n % 10) (omega arith), le-leb (48 + n % 10) 57 (omega arith))

pub last_are_digits : (count n : ℕ) → Digits (last_digits count n)
last_are_digits zero n = All-nil (λ d. is_digit d ≡ true)
last_are_digits (suc count) n =
    All-append (λ d. is_digit d ≡ true) _ _ (last_are_digits count (n / 10)) (All-cons (λ d. is_digit d ≡ true) _ [] (digit_is n) (All-nil (λ d. is_digit d ≡ true)))

pub value_last : (count n : ℕ) → n < 10 ^ count → value (last_digits count n) ≡ n
unfolding value_after
value_last zero n h = omega arith
value_last (suc count) n h =
    let rest = value_last count (n / 10) (omega (arith, pow-suc 10 count)) in
    omega (arith, rest, value_snoc 0 (last_digits count (n / 10)) (48 + n % 10))

-- ---- and back
pub digits_back : (j before : ℕ) (ds : List ℕ) → Digits ds → last_digits (j + length ds) (value_after before ds) ≡ last_digits j before ++ ds
unfolding value_after
digits_back j before [] all = rw (add-zero, append-nil) refl
digits_back j before (d ∷ ds) all =
    let small = digit_below d (first_digit d ds all) in
    let range = digit_range d (first_digit d ds all) in
    let here = 10 * before + (d - 48) in
    let count : j + suc (length ds) ≡ suc j + length ds = omega arith in
    let front : here / 10 ≡ before = omega arith in
    let last : 48 + here % 10 ≡ d = omega arith in
    let later = digits_back (suc j) here ds (later_digits d ds all) in
    rw count (later ∙ rw (front, last, append_assoc) refl)

-- ---- how many they are
record Size (n most : ℕ) : Type 0 where
  tens : ℕ
  few : tens ≤ most
  least : 10 ^ tens ≤ max n 1
  below : n < 10 ^ suc tens

size : (most n : ℕ) → n < 10 ^ suc most → Size n most
size zero n h = record { tens = 0; few = omega arith; least = omega arith; below = h }
size (suc most) n h =
    elim (dec_lt n (10 ^ suc most)) [
      | yes q ↦ let s = size most n q in record { tens = s.tens; few = omega (arith, s.few); least = s.least; below = s.below }
      | no q ↦ record { tens = suc most; few = omega arith; least = omega arith; below = h }
    ]

-- what the test of a number says
number_rules : (count first : ℕ) → (leb 1 count && leb count 9 && (count == 1 || not (first == 48))) ≡ true → (1 ≤ count) × (count ≤ 9) × ((count ≡ 1) ⊎ (first ≡ 48 → ⊥))
number_rules count first e = grind (arith, nat_tests)

rules_number : (count first : ℕ) → 1 ≤ count → count ≤ 9 → ((count ≡ 1) ⊎ (first ≡ 48 → ⊥)) → (leb 1 count && leb count 9 && (count == 1 || not (first == 48))) ≡ true
rules_number count first a b c = grind (arith, nat_tests)

-- a number's digits pass the test
not_zero_first : (ds : List ℕ) (k : ℕ) → length ds ≡ suc k → Digits ds → 10 ^ k ≤ value ds → get_or ds 0 0 ≡ 48 → ⊥
unfolding value_after
not_zero_first [] k long all h e = omega arith
not_zero_first (d ∷ ds) k long all h e =
    let same : length ds ≡ k = omega arith in
    let none : 10 * 0 + (d - 48) ≡ 0 = omega arith in
    let less : value_after 0 ds < (0 + 1) * 10 ^ k = rw same at (value_below 0 ds (later_digits d ds all)) in
    let more : 10 ^ k ≤ value_after 0 ds = rw none at h in
    omega (arith, less, more)

pub decimal_are_digits : (n : ℕ) → Digits (decimal n)
unfolding decimal
decimal_are_digits n = last_are_digits (digit_count n) n

pub value_decimal : (n : ℕ) → n < 1000000000 → value (decimal n) ≡ n
value_decimal n h =
    let s = size 8 n h in
    rw (← (decimal_is s.tens n s.least s.below)) (value_last (suc s.tens) n s.below)

all_tens : (k n : ℕ) → 1 ≤ k → 10 ^ k ≤ max n 1 → 10 ^ k ≤ n
all_tens k n h l =
    let ten : 10 ^ 1 ≤ 10 ^ k = pow-le-pow_right (omega arith) h in
    omega (arith, ten, l)

pub decimal_is_number : (n : ℕ) → n < 1000000000 → is_number (decimal n) ≡ true
decimal_is_number n h =
    let s = size 8 n h in
    let ds = last_digits (suc s.tens) n in
    let long = length_digits (suc s.tens) n in
    let same = value_last (suc s.tens) n s.below in
    let first : (length ds ≡ 1) ⊎ (get_or ds 0 0 ≡ 48 → ⊥) =
    elim (eq-zero-or-pos s.tens) [
      | inl e ↦ inl (omega (arith, long))
      | inr p ↦ inr (not_zero_first ds s.tens long (last_are_digits (suc s.tens) n) (rw same (all_tens s.tens n p s.least)))
    ] in
    rw (← (decimal_is s.tens n s.least s.below)) (rules_number (length ds) (get_or ds 0 0) (omega (arith, long)) (omega (arith, long, s.few)) first)

pub decimal_least : (n : ℕ) → n < 1000000000 → 1 ≤ length (decimal n)
decimal_least n h = (number_rules (length (decimal n)) (get_or (decimal n) 0 0) (decimal_is_number n h)).0

-- and digits that pass it are those of what they say
pub number_few : (ds : List ℕ) → Digits ds → is_number ds ≡ true → value ds < 1000000000
number_few ds all e =
    let rules = number_rules (length ds) (get_or ds 0 0) e in
    let few : 10 ^ length ds ≤ 10 ^ 9 = pow-le-pow_right (omega arith) rules.1 in
    omega (arith, value_below 0 ds all, few)

least_tens : (first k v : ℕ) → (k ≡ 0) ⊎ (1 ≤ first) → first * 10 ^ k ≤ v → 10 ^ k ≤ max v 1
least_tens first k v (inl e) h = rw e (omega arith)
least_tens first k v (inr e) h =
    let most : 1 * 10 ^ k ≤ first * 10 ^ k = mul-le-mul_right (10 ^ k) e in
    omega (arith, most, h)

first_counts : (d k : ℕ) → 48 ≤ d → ((suc k ≡ 1) ⊎ (d ≡ 48 → ⊥)) → (k ≡ 0) ⊎ (1 ≤ 10 * 0 + (d - 48))
first_counts d k h first = grind (arith, nat_tests)

count_digits : (ds : List ℕ) → Digits ds → (1 ≤ length ds) → ((length ds ≡ 1) ⊎ (get_or ds 0 0 ≡ 48 → ⊥)) → digit_count (value ds) ≡ length ds
unfolding value_after
count_digits [] all least first = omega arith
count_digits (d ∷ ds) all least first =
    let range = digit_range d (first_digit d ds all) in
    let tens = least_tens (10 * 0 + (d - 48)) (length ds) (value (d ∷ ds)) (first_counts d (length ds) range.0 first) (value_least (10 * 0 + (d - 48)) ds) in
    count_is (length ds) (value (d ∷ ds)) tens (omega (arith, value_below 0 (d ∷ ds) all))

pub decimal_value : (ds : List ℕ) → Digits ds → is_number ds ≡ true → decimal (value ds) ≡ ds
unfolding decimal
decimal_value ds all e =
    let rules = number_rules (length ds) (get_or ds 0 0) e in
    let back : last_digits (0 + length ds) (value ds) ≡ ds = digits_back 0 0 ds all in
    rw (count_digits ds all rules.0 rules.2) (rw zero-add at back)
