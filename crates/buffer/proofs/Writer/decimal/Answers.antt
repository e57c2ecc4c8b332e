-- `buffer::Writer::decimal` meets its contract. Assumes nothing.
use Rattle.std.proofs.Common.{arith}
use Rattle.buffer.proofs.Digits.{length_decimal, count_is, decimal_is}
use Rattle.buffer.proofs.Writer.decimal.Goals as goal

pub digits-requires : goal.digits-requires
digits-requires c = rw (length_decimal c.args.n, count_is 0 c.args.n (omega arith) (omega arith)) at c.requires

pub digits-requires-in-10-to-99 : goal.digits-requires-in-10-to-99
digits-requires-in-10-to-99 c = rw (length_decimal c.args.n, count_is 1 c.args.n (omega arith) (omega arith)) at c.requires

pub digits-requires-in-100-to-999 : goal.digits-requires-in-100-to-999
digits-requires-in-100-to-999 c = rw (length_decimal c.args.n, count_is 2 c.args.n (omega arith) (omega arith)) at c.requires

pub digits-requires-in-1000-to-9999 : goal.digits-requires-in-1000-to-9999
digits-requires-in-1000-to-9999 c = rw (length_decimal c.args.n, count_is 3 c.args.n (omega arith) (omega arith)) at c.requires

pub digits-requires-in-10000-to-99999 : goal.digits-requires-in-10000-to-99999
digits-requires-in-10000-to-99999 c = rw (length_decimal c.args.n, count_is 4 c.args.n (omega arith) (omega arith)) at c.requires

pub returns-in-0-to-9 : goal.returns-in-0-to-9
returns-in-0-to-9 c = rw (decimal_is 0 c.args.n (omega arith) (omega arith)) at c.digits.ensures

pub returns-in-10-to-99 : goal.returns-in-10-to-99
returns-in-10-to-99 c = rw (decimal_is 1 c.args.n (omega arith) (omega arith)) at c.digits-in-10-to-99.ensures

pub returns-in-100-to-999 : goal.returns-in-100-to-999
returns-in-100-to-999 c = rw (decimal_is 2 c.args.n (omega arith) (omega arith)) at c.digits-in-100-to-999.ensures

pub returns-in-1000-to-9999 : goal.returns-in-1000-to-9999
returns-in-1000-to-9999 c = rw (decimal_is 3 c.args.n (omega arith) (omega arith)) at c.digits-in-1000-to-9999.ensures

pub returns-in-10000-to-99999 : goal.returns-in-10000-to-99999
returns-in-10000-to-99999 c = rw (decimal_is 4 c.args.n (omega arith) (omega arith)) at c.digits-in-10000-to-99999.ensures
