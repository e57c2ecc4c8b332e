-- `load::runs::Runs::add` meets its contract. Assumes nothing.
use Rattle.std.proofs.Common.{◌∙◌, sym}
use Rattle.load.proofs.Regular.{not_first, first_follows, later_follows}
use Rattle.load.proofs.Counting.{counted_first, counted_later, before_first, before_later, neither}
use Rattle.load.proofs.runs.Runs.add.Goals as goal

pub returns-then-in_first_run : goal.returns-then-in_first_run
returns-then-in_first_run c = λ ls rows k say before.
    let on = sym (c.in_first_run.ensures rows k) ∙ c.if-in_first_run.true in
    (first_follows rows _ on, rw c.add_to_first_run.ensures (counted_first rows _ _ k on), before_first ls rows _ _ on before)

pub returns-then-not-in_later_run : goal.returns-then-not-in_later_run
returns-then-not-in_later_run c = λ ls rows k say before.
    let off = sym (c.in_first_run.ensures rows k) ∙ c.if-in_first_run.false in
    let some = not_first rows _ off in
    neither rows _ off (sym (c.in_later_run.ensures rows k some (c.torque_due-torque.ensures ls rows k say some before).0) ∙ c.if-not-in_later_run.true)

pub returns : goal.returns
returns c = λ ls rows k say before.
    let off = sym (c.in_first_run.ensures rows k) ∙ c.if-in_first_run.false in
    let some = not_first rows _ off in
    let due = c.torque_due-torque.ensures ls rows k say some before in
    let fits = sym (c.in_later_run.ensures rows k some due.0) ∙ c.if-not-in_later_run.false in
    (later_follows rows _ fits, rw c.add_to_later_run.ensures (counted_later rows _ _ k off fits), before_later ls rows _ _ off due.1)
