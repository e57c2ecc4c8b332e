-- The lines of the table: their facts, and that every number names a usable line. Assumes nothing.
use Prim.Native.Nat.{ℕ, zero, suc, ◌≤◌, ◌<◌}
use mathlib.Core.Path.{◌≡◌}
use mathlib.Core.Bool.{true}
use native.Mathlib.Omega.{arith}
use native.Mathlib.Decide.{dec_lt}
use lib.ListN.{get_or}
use Rattle.std.proofs.lemmas.Bool.Decides.{nat_tests}
use Rattle.std.proofs.lemmas.List.{get_or_past}
use Rattle.grid.proofs.Every.{every_at}
use Rattle.loss.specs.declared.Line.{Line}
use Rattle.loss.specs.Standard.{lines, LineFacts, line_holds, table_holds, no_line, line_of, Usable}

facts_of : (l : Line) → line_holds l ≡ true → LineFacts l
facts_of l e = record { lowest = grind (arith, nat_tests); highest = grind (arith, nat_tests); drag = grind (arith, nat_tests); always = grind (arith, nat_tests) }

-- the facts at each line of the table
pub line_facts : (number : ℕ) → 1 ≤ number → number ≤ 5 → LineFacts (line_of number)
line_facts zero h k = absurd (omega arith)
line_facts (suc i) h k = facts_of (line_of (suc i)) (every_at (λ i. line_holds (get_or lines i no_line)) 5 table_holds i (omega arith))

no_line_usable : Usable no_line
no_line_usable = record { least = omega arith; most = omega arith; drag0 = omega arith; drag1 = omega arith }

-- the line of any number
pub line_of_usable : (number : ℕ) → Usable (line_of number)
line_of_usable zero = no_line_usable
line_of_usable (suc i) = go (dec_lt i 5)
  where
    go : Dec (i < 5) → Usable (line_of (suc i))
    go (yes h) =
        let f = line_facts (suc i) (omega arith) (omega arith) in
        record { least = omega (arith, f.lowest); most = omega (arith, f.highest); drag0 = f.drag; drag1 = omega (arith, f.always) }
    go (no h) = rw (get_or_past lines i no_line (omega arith)) no_line_usable
