-- `load::write_entries` meets its contract. Assumes nothing.
use Rattle.std.proofs.Common.{sym, refl, ◌∙◌, rules}
use Rattle.load.proofs.Loading.{too_large, too_short, all_written}
use Rattle.load.proofs.write_entries.Goals as goal

pub returns-then-not-entries_valid : goal.returns-then-not-entries_valid
returns-then-not-entries_valid c =
    record { outcome = sym (too_large _ _ (sym c.entries_valid.ensures ∙ c.if-not-entries_valid.true)); written = refl }

pub returns-then-entries-losses : goal.returns-then-entries-losses
returns-then-entries-losses c =
    record { outcome = sym (too_short _ _ (sym c.entries_valid.ensures ∙ c.if-not-entries_valid.false) c.if-entries-losses.true); written = refl }

pub returns : goal.returns
returns c =
    record { outcome = sym (all_written _ _ (sym c.entries_valid.ensures ∙ c.if-not-entries_valid.false) c.if-entries-losses.false); written = search rules }
