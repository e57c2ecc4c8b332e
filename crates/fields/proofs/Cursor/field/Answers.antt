-- `fields::Cursor::field` meets its contract. Assumes nothing.
use Rattle.std.proofs.Common.{refl, sym, ◌∙◌}
use Rattle.fields.proofs.Heads.{no_bytes, incomplete, other_tag, not_allowed, past_end, whole}
use Rattle.fields.proofs.Cursor.field.Goals as goal

pub returns-then-data-at-clause-answer : goal.returns-then-data-at-clause-answer
returns-then-data-at-clause-answer c = no_bytes _ _ _ _ c.if-data-at.true

pub returns-then-data-at-lt3-clause-answer : goal.returns-then-data-at-lt3-clause-answer
returns-then-data-at-lt3-clause-answer c = incomplete _ _ _ _ c.if-data-at.false c.if-data-at-lt3.true

pub returns-then-kind-tag-clause-answer : goal.returns-then-kind-tag-clause-answer
returns-then-kind-tag-clause-answer c = other_tag _ _ _ _ c.if-data-at.false c.if-data-at-lt3.false c.if-kind-tag.true

pub returns-then-not-contains-clause-answer : goal.returns-then-not-contains-clause-answer
returns-then-not-contains-clause-answer c =
    not_allowed _ _ _ _ c.if-data-at.false c.if-data-at-lt3.false _ c.if-kind-tag.false (c.from-length.ensures ∙ c.number_of.ensures) (sym c.contains.ensures ∙ c.if-not-contains.true)

pub returns-then-data-start-clause-answer : goal.returns-then-data-start-clause-answer
returns-then-data-start-clause-answer c =
    past_end _ _ _ _ c.if-data-at.false c.if-data-at-lt3.false _ c.if-kind-tag.false (c.from-length.ensures ∙ c.number_of.ensures) (sym c.contains.ensures ∙ c.if-not-contains.false) c.if-data-start.true

pub returns-clause-answer : goal.returns-clause-answer
returns-clause-answer c =
    whole _ _ _ _ c.if-data-at.false c.if-data-at-lt3.false _ c.if-kind-tag.false (c.from-length.ensures ∙ c.number_of.ensures) (sym c.contains.ensures ∙ c.if-not-contains.false) c.if-data-start.false

pub returns-clause-due : goal.returns-clause-due
returns-clause-due c = record { tagged = c.if-kind-tag.false; same_data = refl }
