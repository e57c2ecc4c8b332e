-- `listing_lines::value` meets its contract. Assumes nothing.
use Rattle.std.proofs.Common.{◌≡◌, take}
use Rattle.listing_lines.specs.Form.{value}
use Rattle.listing_lines.proofs.value.Given as goal

abbrev pub invariant-loop-digit : goal.invariant-loop-digit
invariant-loop-digit l = l.value ≡ value (take l.digit-index l.digits)
