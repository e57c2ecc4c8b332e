-- Document 01, "The map program": numbers as decimal digits.
use Rattle.std.specs.Prelude.{ℕ, zero, suc, ◌+◌, ◌/◌, ◌%◌, true, false, List, [], ◌∷◌, ◌++◌, ltb}
use Rattle.buffer.specs.Bytes.{bytes}

-- the last count digits of n, the most significant first; 48 is the code of `0`
abbrev pub last_digits : (count n : ℕ) → List ℕ
last_digits zero n = []
last_digits (suc count) n = last_digits count (n / 10) ++ ((48 + n % 10) ∷ [])

-- how many digits n has, found by at most so many divisions by 10
unfoldable pub digit_count_by : (divisions n : ℕ) → ℕ
digit_count_by zero n = 1
digit_count_by (suc divisions) n =
    elim (ltb n 10) [
      | true ↦ 1
      | false ↦ suc (digit_count_by divisions (n / 10))
    ]

unfoldable pub digit_count : ℕ → ℕ
digit_count n = digit_count_by n n

-- a number in decimal digits, without leading zeros; 0 is `0`
unfoldable pub decimal : ℕ → List ℕ
decimal n = last_digits (digit_count n) n

-- hundredths of Nm, as whole Nm, a point and two digits
unfoldable pub hundredths : ℕ → List ℕ
hundredths n = decimal (n / 100) ++ bytes "." ++ last_digits 2 n
