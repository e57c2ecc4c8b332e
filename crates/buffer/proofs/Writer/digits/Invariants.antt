-- `buffer::Writer::digits` meets its contract. Assumes nothing.
use Rattle.std.proofs.Common.{◌≡◌, ◌-◌, ◌++◌, drop}
use Rattle.buffer.specs.Digits.{last_digits}
use Rattle.buffer.proofs.Writer.digits.Given as goal

-- the last i digits stand at the end, and rest has those before them
abbrev pub invariant-loop-i : goal.invariant-loop-i
invariant-loop-i l = last_digits (l.count - l.i) l.rest ++ drop (l.count - l.i) l.digits ≡ last_digits l.count l.n
