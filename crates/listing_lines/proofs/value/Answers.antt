-- `listing_lines::value` meets its contract. Assumes nothing.
use Rattle.std.proofs.Common.{ℕ, List, true, ◌≡◌, refl, arith, length, get_or, ◌<◌}
use Rattle.std.proofs.lemmas.List.Elements.{All-from_get_or}
use Rattle.listing_lines.specs.Form.{is_digit, value_after}
use Rattle.listing_lines.proofs.Values.{Digits, value_next, nine_below, digit_range}
use Rattle.listing_lines.proofs.value.Goals as goal

all_digits : (digits : List ℕ) → ((i : ℕ) → i < length digits → is_digit (get_or digits i 0) ≡ true) → Digits digits
all_digits digits each = All-from_get_or (λ d. is_digit d ≡ true) digits 0 each

pub loop-digit-init : goal.loop-digit-init
unfolding value_after
loop-digit-init c = refl

pub overflow_mul-value : goal.overflow_mul-value
overflow_mul-value c =
    omega (arith, c.loop-digit.invariant, nine_below c.args.digits.now c.loop-digit.digit-index (all_digits c.args.digits.now c.requires.digits) c.loop-digit-test.true c.requires.few)

pub overflow_add-value : goal.overflow_add-value
overflow_add-value c =
    let digit = digit_range (get_or c.args.digits.now c.loop-digit.digit-index 0) (c.requires.digits c.loop-digit.digit-index c.loop-digit-test.true) in
    omega (arith, c.from.ensures, digit, c.loop-digit.invariant, nine_below c.args.digits.now c.loop-digit.digit-index (all_digits c.args.digits.now c.requires.digits) c.loop-digit-test.true c.requires.few)

pub loop-digit-preserved : goal.loop-digit-preserved
loop-digit-preserved c = rw c.from.ensures (rw (value_next c.args.digits.now c.loop-digit.digit-index c.loop-digit-test.true) (rw c.loop-digit.invariant refl))
