-- `buffer::Writer::hundredths` meets its contract. Assumes nothing.
use Rattle.std.proofs.Common.{rules}
use Rattle.buffer.specs.Digits.{hundredths}
use Rattle.buffer.proofs.Appending.{appends_then}
use Rattle.buffer.proofs.Writer.hundredths.Goals as goal

pub returns : goal.returns
unfolding hundredths
returns c = search (rules, appends_then)
