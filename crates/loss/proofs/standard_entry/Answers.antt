-- `loss::standard_entry` meets its contract: the three terms over 10 times the efficiency. Assumes nothing.
use Rattle.std.proofs.Common.{◌*◌, arith}
use Rattle.arith.proofs.Quotients.{div_ceil_is_quotient_up}
use Rattle.loss.proofs.Values.{standard_numerator, standard_entry_is}
use Rattle.loss.proofs.standard_entry.Goals as goal

pub returns-clause-entry : goal.returns-clause-entry
returns-clause-entry c =
    let line = c.line_of-efficiency in
    let e = standard_entry_is c.args.line c.args.ratio c.args.torque line.result line.ensures.line line.ensures.usable.least in
    let q = div_ceil_is_quotient_up (standard_numerator line.result c.args.ratio c.args.torque) (10 * line.result.efficiency) (omega arith) in
    cc
