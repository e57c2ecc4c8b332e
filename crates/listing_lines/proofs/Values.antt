-- The number that digits say. Assumes nothing.
use Rattle.std.proofs.Common.{ℕ, suc, ◌+◌, ◌-◌, ◌*◌, ◌^◌, ◌≤◌, ◌<◌, ◌≡◌, true, refl, arith, List, [], ◌∷◌, ◌++◌, All, length, get_or, take, add-one, pow-suc, mul-le-mul_right}
use Rattle.std.proofs.Math.Seq.{take-suc}
use Rattle.std.proofs.Math.Nat.{pow-le-pow_right}
use Rattle.std.proofs.lemmas.List.{length-take-le}
use Rattle.std.proofs.lemmas.List.Elements.{All-take}
use Rattle.std.proofs.lemmas.Bool.Decides.{nat_tests}
use Rattle.listing_lines.specs.Form.{is_digit, value_after, value}

-- one digit more
pub value_snoc : (before : ℕ) (digits : List ℕ) (digit : ℕ) → value_after before (digits ++ (digit ∷ [])) ≡ 10 * value_after before digits + (digit - 48)
unfolding value_after
value_snoc before [] digit = refl
value_snoc before (d ∷ ds) digit = value_snoc (10 * before + (d - 48)) ds digit

-- what a digit says
pub digit_range : (d : ℕ) → is_digit d ≡ true → (48 ≤ d) × (d < 58)
digit_range d e = grind (arith, nat_tests)

pub digit_below : (d : ℕ) → is_digit d ≡ true → d - 48 < 10
digit_below d e = omega (arith, digit_range d e)

-- all of them are digits
abbrev pub Digits : List ℕ → Type 0
Digits digits = All (λ d. is_digit d ≡ true) digits

pub first_digit : (d : ℕ) (ds : List ℕ) → Digits (d ∷ ds) → is_digit d ≡ true
first_digit d ds all = all 0 0 (omega arith)

pub later_digits : (d : ℕ) (ds : List ℕ) → Digits (d ∷ ds) → Digits ds
later_digits d ds all = λ k x l. all (suc k) x (omega arith)

below_step : (before s v p q : ℕ) → s < 10 → v < (10 * before + s + 1) * p → q ≡ p * 10 → v < (before + 1) * q
below_step before s v p q small h e =
    let enough : 10 * before + s + 1 ≤ 10 * (before + 1) = omega arith in
    let more : (10 * before + s + 1) * p ≤ 10 * (before + 1) * p = mul-le-mul_right p enough in
    rw e (omega (arith, h, more))

least_step : (before s v p q : ℕ) → (10 * before + s) * p ≤ v → q ≡ p * 10 → before * q ≤ v
least_step before s v p q h e = rw e (omega (arith, h))

-- so many digits say less than that power of ten
pub value_below : (before : ℕ) (digits : List ℕ) → Digits digits → value_after before digits < (before + 1) * 10 ^ length digits
unfolding value_after
value_below before [] all = omega arith
value_below before (d ∷ ds) all =
    let later = value_below (10 * before + (d - 48)) ds (later_digits d ds all) in
    below_step before (d - 48) _ (10 ^ length ds) (10 ^ suc (length ds)) (digit_below d (first_digit d ds all)) later (pow-suc 10 (length ds))

-- and no less than those before them say with as many zeros
pub value_least : (before : ℕ) (digits : List ℕ) → before * 10 ^ length digits ≤ value_after before digits
unfolding value_after
value_least before [] = omega arith
value_least before (d ∷ ds) =
    least_step before (d - 48) _ (10 ^ length ds) (10 ^ suc (length ds)) (value_least (10 * before + (d - 48)) ds) (pow-suc 10 (length ds))

-- ---- from one digit to the next
pub value_next : (digits : List ℕ) (i : ℕ) → i < length digits → value (take (i + 1) digits) ≡ 10 * value (take i digits) + (get_or digits i 0 - 48)
value_next digits i l = rw (add-one i, take-suc digits i 0 l) (value_snoc 0 (take i digits) (get_or digits i 0))

-- before the last of nine digits
pub nine_below : (digits : List ℕ) (i : ℕ) → Digits digits → i < length digits → length digits ≤ 9 → value (take i digits) < 100000000
nine_below digits i all l few =
    let below = value_below 0 (take i digits) (All-take (λ d. is_digit d ≡ true) i digits all) in
    let long : length (take i digits) ≤ 8 = omega (arith, length-take-le i digits (omega arith)) in
    omega (arith, below, pow-le-pow_right {n = 10} (omega arith) long)
