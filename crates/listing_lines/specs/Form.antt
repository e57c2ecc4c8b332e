-- Document 02, C-16: the form of a row, a line whose blanks at both ends are cut off. It is read from its first byte on.
use Rattle.std.specs.Prelude.{ℕ, ◌+◌, ◌-◌, ◌*◌, Bool, not, ◌&&◌, ◌||◌, ◌==◌, if◌then◌else◌, List, [], ◌∷◌, Option, Some, None, leb, length, get_or, take, drop}
use Rattle.std.specs.List.{prefix_len}
use Rattle.listing_lines.specs.declared.Row.{Row}

-- the code of a digit, from `0` to `9`
abbrev pub is_digit : ℕ → Bool
is_digit byte = leb 48 byte && leb byte 57

-- the number that digits say, where those before them say this one
unfoldable pub value_after : ℕ → List ℕ → ℕ
value_after before [] = before
value_after before (digit ∷ later) = value_after (10 * before + (digit - 48)) later

abbrev pub value : List ℕ → ℕ
value digits = value_after 0 digits

-- "1 to 9 digits without leading zeros, the number 0 being `0`"
abbrev pub is_number : List ℕ → Bool
is_number digits = leb 1 (length digits) && leb (length digits) 9 && (length digits == 1 || not (get_or digits 0 0 == 48))

-- a number, and what follows it in the line
pub record Numbered : Type 0 where
  pub number : ℕ
  pub rest : List ℕ

infixl 10 ◌>>=◌
-- what is missing ends it
abbrev pub ◌>>=◌ : {A B : Type 0} → Option A → (A → Option B) → Option B
◌>>=◌ (Some a) next = next a
◌>>=◌ None next = None

-- the number at the start of a line
unfoldable pub leading_number : List ℕ → Option Numbered
leading_number line =
    let count = prefix_len is_digit line in
    let digits = take count line in
    if is_number digits then Some (record { number = value digits; rest = drop count line }) else None

-- what follows a comma
unfoldable pub after_comma : List ℕ → Option (List ℕ)
after_comma line = if get_or line 0 0 == 44 then Some (drop 1 line) else None

-- "a point and two digits", and nothing after them
abbrev pub is_hundredths : List ℕ → Bool
is_hundredths line = length line == 3 && get_or line 0 0 == 46 && is_digit (get_or line 1 0) && is_digit (get_or line 2 0)

-- the hundredths that they say
unfoldable pub trailing_hundredths : List ℕ → Option ℕ
trailing_hundredths line = if is_hundredths line then Some (value (drop 1 line)) else None

-- a speed, a torque and a loss, which is in hundredths
unfoldable pub row_in : List ℕ → Option Row
row_in line = do
  speed ← leading_number line
  at_torque ← after_comma speed.rest
  torque ← leading_number at_torque
  at_loss ← after_comma torque.rest
  whole ← leading_number at_loss
  part ← trailing_hundredths whole.rest
  Some (record { speed = speed.number; torque = torque.number; loss = 100 * whole.number + part })
