-- `listing_lines::leading_number` meets its contract. Assumes nothing.
use Rattle.std.proofs.Common.{◌<◌, arith}
use Rattle.std.proofs.lemmas.List.{get_or-take}
use Rattle.std.proofs.lemmas.List.Sums.{prefix_len-le-length, prefix_len_passes}
use Rattle.std.specs.List.{prefix_len}
use Rattle.listing_lines.specs.Form.{is_digit}
use Rattle.listing_lines.proofs.leading_number.Goals as goal

pub split_at-requires : goal.split_at-requires
split_at-requires c = omega (arith, c.digit_count.ensures, prefix_len-le-length is_digit c.args.line.now)

pub value-requires-clause-digits : goal.value-requires-clause-digits
value-requires-clause-digits c = λ i l.
    let line = c.args.line.now in
    let inside : i < prefix_len is_digit line = omega (arith, l, c.split_at.ensures.front_len, c.digit_count.ensures) in
    rw (c.split_at.ensures.front, c.digit_count.ensures, get_or-take (prefix_len is_digit line) line i 0 inside) (prefix_len_passes is_digit line i 0 inside)
