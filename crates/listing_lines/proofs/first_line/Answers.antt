-- `listing_lines::first_line` meets its contract. Assumes nothing.
use Rattle.std.proofs.Common.{◌+◌, ◌<◌, arith, length}
use Rattle.std.proofs.lemmas.Bool.{eq-eqb, eqb-true}
use Rattle.std.proofs.lemmas.List.{take_rest, length-take, length-drop}
use Rattle.listing_lines.proofs.Lines.{first_ends_at, none_ends}
use Rattle.listing_lines.proofs.first_line.Goals as goal

pub returns-in_err-end : goal.returns-in_err-end
returns-in_err-end c =
    rw c.from_residual.ensures (none_ends c.args.text.now (λ k l is. c.in_err-end.ensures k (omega arith) l (eq-eqb _ _ is)))

pub returns : goal.returns
returns c =
    let found = c.in_ok-end.ensures in
    let inside : c.in_ok-end.end < length c.args.text.now = found.0.high in
    let first = first_ends_at c.args.text.now c.in_ok-end.end inside (eqb-true _ _ found.1) (λ k l is. found.0.before k (omega arith) l (eq-eqb _ _ is)) in
    (rw take_rest first, simp (length-take, take_rest) (omega (arith, inside, length-drop (c.in_ok-end.end + 1) c.args.text.now)))
