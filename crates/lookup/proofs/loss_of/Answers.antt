-- `lookup::loss_of` meets its contract. Assumes nothing.
use Rattle.std.proofs.Common.{sym}
use Rattle.lookup.proofs.Queries.{answered_within}
use Rattle.lookup.proofs.loss_of.Goals as goal

pub loss_within-requires : goal.loss_within-requires
loss_within-requires c = (answered_within _ _ _ _ (sym (rw c.in_ok-check_point.was at c.check_point.ensures))).1
