-- Document 01, "Component data": numbers as bytes, the most significant first.
use Rattle.std.specs.Prelude.{ℕ, ◌+◌, ◌-◌, ◌*◌, List, [], ◌∷◌, take, drop}

-- the number that bytes say after the number n
abbrev pub continued : ℕ → List ℕ → ℕ
continued n [] = n
continued n (byte ∷ bytes) = continued (n * 256 + byte) bytes

-- the number that bytes say
abbrev pub number_of : List ℕ → ℕ
number_of bytes = continued 0 bytes

-- the numbers that bytes say, two bytes each
unfoldable pub pairs : List ℕ → List ℕ
pairs [] = []
pairs (high ∷ []) = []
pairs (high ∷ low ∷ bytes) = (high * 256 + low) ∷ pairs bytes

-- the bytes from a place up to another
abbrev pub between : List ℕ → ℕ → ℕ → List ℕ
between bytes start end = take (end - start) (drop start bytes)
