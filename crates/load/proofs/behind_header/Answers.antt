-- `load::behind_header` meets its contract. Assumes nothing.
use Rattle.std.proofs.Common.{◌≡◌, ◌∙◌, sym, ◌+◌, ◌-◌, arith, length}
use Rattle.load.proofs.Telling.{header_found, header_wrong, header_open}
use Rattle.load.proofs.behind_header.Goals as goal

pub returns-in_default : goal.returns-in_default
returns-in_default c = header_open c.args.text.now c.in_default.ensures

pub returns-then-eq : goal.returns-then-eq
returns-then-eq c =
    let (first, long) = c.in-Some.ensures in
    let start : length c.args.text.now - length c.in-Some.body.now ≡ length c.in-Some.line.now + 1 = omega (arith, long) in
    (rw start (header_found _ _ _ first (rw (← c.trimmed.ensures.answer, ← c.header.ensures, ← c.as_slice.ensures) (sym c.eq.ensures ∙ c.if-eq.true))), omega (arith, long))

pub returns-else-eq : goal.returns-else-eq
returns-else-eq c = header_wrong _ _ _ (c.in-Some.ensures).0 (rw (← c.trimmed.ensures.answer, ← c.header.ensures, ← c.as_slice.ensures) (sym c.eq.ensures ∙ c.if-eq.false))
