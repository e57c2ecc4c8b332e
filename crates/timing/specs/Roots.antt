-- Roots rounded up of a list of numbers.
use Rattle.std.specs.Prelude.{ℕ, List, leb, length, map, if◌then◌else◌}
use Rattle.grid.specs.Lists.{overwritten}
use Rattle.arith.specs.Root.{root_up}

abbrev pub roots_of : List ℕ → List ℕ
roots_of numbers = map root_up numbers

-- what is lent, at exit
abbrev pub content : (numbers before : List ℕ) → List ℕ
content numbers before = if leb (length numbers) (length before) then overwritten (roots_of numbers) before else before
