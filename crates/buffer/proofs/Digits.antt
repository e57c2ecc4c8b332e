-- Laws of a number's digits and their count. Assumes nothing.
use Prim.Native.Nat.{ℕ, zero, suc, max, ◌+◌, ◌/◌, ◌^◌, ◌≤◌, ◌<◌}
use mathlib.Core.Path.{◌≡◌, refl}
use native.Mathlib.Omega.{arith}
use native.Mathlib.Decide.{dec_lt}
use native.Mathlib.Nat.{le_antisymm, pow-suc}
use borrow.Author.Tests.{lt-ltb, le-ltb, le-leb, lt-leb}
use mir.Val.{bool_byte}
use lib.Dec.{leb}
use lib.ListN.{length, length-append}
use Rattle.buffer.specs.Digits.{last_digits, digit_count_by, digit_count, decimal, hundredths}

-- ---- how many there are
one_step : (divisions n : ℕ) → n < 10 → digit_count_by (suc divisions) n ≡ 1
unfolding digit_count_by
one_step divisions n h = rw (lt-ltb n 10 h, digit_count_by)

more_step : (divisions n : ℕ) → 10 ≤ n → digit_count_by (suc divisions) n ≡ suc (digit_count_by divisions (n / 10))
unfolding digit_count_by
more_step divisions n h = rw (le-ltb n 10 h, digit_count_by)

most_by : (divisions k n : ℕ) → n < 10 ^ suc k → digit_count_by divisions n ≤ suc k
unfolding digit_count_by
most_by zero k n h = omega arith
most_by (suc d) zero n h = omega (arith, one_step d n (omega arith))
most_by (suc d) (suc k) n h =
    elim (dec_lt n 10) [
      | yes q ↦ omega (arith, one_step d n q)
      | no q ↦ omega (arith, more_step d n (omega arith), most_by d k (n / 10) (omega (arith, pow-suc 10 (suc k))))
    ]

pow_positive : (k : ℕ) → 1 ≤ 10 ^ k
pow_positive zero = omega arith
pow_positive (suc k) = omega (arith, pow-suc 10 k, pow_positive k)

least_by : (divisions k n : ℕ) → n ≤ divisions → 10 ^ k ≤ max n 1 → suc k ≤ digit_count_by divisions n
unfolding digit_count_by
least_by zero zero n h l = omega arith
least_by zero (suc k) n h l = absurd (omega (arith, pow-suc 10 k, pow_positive k))
least_by (suc d) zero n h l =
    elim (dec_lt n 10) [
      | yes q ↦ omega (arith, one_step d n q)
      | no q ↦ omega (arith, more_step d n (omega arith))
    ]
least_by (suc d) (suc k) n h l =
    let more : 10 ≤ n = omega (arith, pow-suc 10 k, pow_positive k) in
    omega (arith, more_step d n more, least_by d k (n / 10) (omega arith) (omega (arith, pow-suc 10 k)))

-- a number below a power of ten has at most so many digits
pub count_most : (k n : ℕ) → n < 10 ^ suc k → digit_count n ≤ suc k
unfolding digit_count
count_most k n h = most_by n k n h

-- and one between two powers of ten as many as they tell
pub count_is : (k n : ℕ) → 10 ^ k ≤ max n 1 → n < 10 ^ suc k → digit_count n ≡ suc k
unfolding digit_count
count_is k n l h = le_antisymm (most_by n k n h) (least_by n k n (omega arith) l)

-- a short one, as a sum of tests
at_least : (k n : ℕ) → k ≤ n → bool_byte (leb k n) ≡ 1
at_least k n h = rw (le-leb k n h)

less : (k n : ℕ) → n < k → bool_byte (leb k n) ≡ 0
less k n h = rw (lt-leb k n h)

pub short_count : (n : ℕ) → n < 100000 → 1 + bool_byte (leb 10 n) + bool_byte (leb 100 n) + bool_byte (leb 1000 n) + bool_byte (leb 10000 n) ≡ digit_count n
short_count n h =
    elim (dec_lt n 10) [
      | yes q ↦ omega (arith, less 10 n (omega arith), less 100 n (omega arith), less 1000 n (omega arith), less 10000 n (omega arith), count_is 0 n (omega arith) (omega arith))
      | no p ↦ elim (dec_lt n 100) [
        | yes q ↦ omega (arith, at_least 10 n (omega arith), less 100 n (omega arith), less 1000 n (omega arith), less 10000 n (omega arith), count_is 1 n (omega arith) (omega arith))
        | no p2 ↦ elim (dec_lt n 1000) [
          | yes q ↦ omega (arith, at_least 10 n (omega arith), at_least 100 n (omega arith), less 1000 n (omega arith), less 10000 n (omega arith), count_is 2 n (omega arith) (omega arith))
          | no p3 ↦ elim (dec_lt n 10000) [
            | yes q ↦ omega (arith, at_least 10 n (omega arith), at_least 100 n (omega arith), at_least 1000 n (omega arith), less 10000 n (omega arith), count_is 3 n (omega arith) (omega arith))
            | no p4 ↦ omega (arith, at_least 10 n (omega arith), at_least 100 n (omega arith), at_least 1000 n (omega arith), at_least 10000 n (omega arith), count_is 4 n (omega arith) (omega arith))
          ]
        ]
      ]
    ]

-- ---- the digits
pub length_digits : (count n : ℕ) → length (last_digits count n) ≡ count
length_digits zero n = refl
length_digits (suc count) n = simp (length-append, length_digits count (n / 10)) (omega arith)

pub length_decimal : (n : ℕ) → length (decimal n) ≡ digit_count n
unfolding decimal
length_decimal n = length_digits (digit_count n) n

pub length_hundredths : (n : ℕ) → length (hundredths n) ≡ digit_count (n / 100) + 3
unfolding hundredths
length_hundredths n = simp length-append (omega (arith, length_decimal (n / 100)))

-- the same of the digits
pub decimal_is : (k n : ℕ) → 10 ^ k ≤ max n 1 → n < 10 ^ suc k → last_digits (suc k) n ≡ decimal n
unfolding decimal
decimal_is k n l h = rw (count_is k n l h) refl
