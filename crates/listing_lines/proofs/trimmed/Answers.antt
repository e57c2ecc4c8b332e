-- `listing_lines::trimmed` meets its contract. Assumes nothing.
use Rattle.std.proofs.Common.{◌-◌, length, take, drop, ◌∙◌, rules, tests}
use Rattle.std.specs.Prelude.{reverse}
use Rattle.std.proofs.lemmas.List.{take_rest}
use Rattle.std.proofs.lemmas.Iterator.{YieldsList-from_slice}
use Rattle.std.proofs.lemmas.Iterator.Adapters.{YieldsList-from_rev_slice}
use Rattle.std.proofs.lemmas.Iterator.Consumers.{count_from_yields_List}
use Rattle.std.proofs.lemmas.Iterator.Search.{YieldsList-from_take_while}
use Rattle.std.proofs.lemmas.List.Folds.{length-prefix_len}
use Rattle.listing_lines.specs.Blanks.{is_blank, trimmed}
use Rattle.listing_lines.proofs.Trimming.{trimmed_part}
use Rattle.listing_lines.proofs.trimmed.Goals as goal

pub returns-clause-answer : goal.returns-clause-answer
unfolding trimmed
returns-clause-answer c =
    let line = c.args.line.now in
    let first = count_from_yields_List c.take_while.result _ c.count-first.ensures.ran (YieldsList-from_take_while _ is_blank (YieldsList-from_slice line (cc)) c.take_while.ensures.closure c.take_while.ensures.done (λ x b q k. search (rules, tests))) ∙ length-prefix_len is_blank line in
    let rest = take (length line - c.count-first.result) (drop c.count-first.result line) in
    let last = count_from_yields_List c.take_while-2.result _ c.count-last.ensures.ran (YieldsList-from_take_while _ is_blank (YieldsList-from_rev_slice rest (cc)) c.take_while-2.ensures.closure c.take_while-2.ensures.done (λ x b q k. search (rules, tests))) ∙ length-prefix_len is_blank (reverse rest) in
    rw (last, take_rest, first)

pub returns-clause-part : goal.returns-clause-part
returns-clause-part c = rw (returns-clause-answer c) (trimmed_part c.args.line.now)
