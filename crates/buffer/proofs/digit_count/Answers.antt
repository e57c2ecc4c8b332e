-- `buffer::digit_count` meets its contract. Assumes nothing.
use Rattle.std.proofs.Common.{sym, arith, add-one}
use Rattle.buffer.proofs.Digits.{count_is, short_count}
use Rattle.buffer.proofs.digit_count.Goals as goal

pub returns-then-n-lt100000-clause-answer : goal.returns-then-n-lt100000-clause-answer
returns-then-n-lt100000-clause-answer c =
    rw (c.from.ensures, c.from-then-n-lt100000.ensures, c.from-then-n-lt100000-2.ensures, c.from-then-n-lt100000-3.ensures) (short_count c.args.n c.if-n-lt100000.true)

pub returns-else-n-lt100000-clause-answer : goal.returns-else-n-lt100000-clause-answer
returns-else-n-lt100000-clause-answer c =
    rw add-one (sym (count_is c.ilog10.result c.args.n (omega (arith, c.ilog10.ensures.power_le)) (omega (arith, c.ilog10.ensures.next_power_gt))))
