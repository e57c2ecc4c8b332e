-- `numbers::check` meets its contract. Assumes nothing.
use Rattle.std.proofs.Common.{sym}
use Rattle.numbers.proofs.Checks.{counts_within}
use Rattle.numbers.proofs.check.Goals as goal

pub measured_check-requires-clause-counts : goal.measured_check-requires-clause-counts
measured_check-requires-clause-counts c = counts_within _ (sym c.in_ok-axes_check.ensures)
