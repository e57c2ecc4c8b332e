-- The axes of a map that is loaded. Assumes nothing.
use Rattle.std.proofs.Common.{◌≡◌, ◌∙◌, ◌+◌, ◌-◌, ◌≤◌, ◌<◌, ◌&&◌, ℕ, true, false, refl, sym, ap, arith, List, length, get_or, set, below_more, length-take, leb, leb-true, le-leb}
use Rattle.std.proofs.lemmas.Bool.{and_parts}
use Rattle.std.proofs.lemmas.List.{get_or-set_same, get_or-set_other, get_or-take}
use Rattle.std.proofs.lemmas.Grind.{same_number_lists}
use Rattle.refusal.specs.Outcome.{refuse}
use Rattle.grid.specs.Every.{every}
use Rattle.grid.specs.Axis.{within, rises, valid_numbers, first_step}
use Rattle.grid.specs.LossMap.{LossMap}
use Rattle.grid.specs.Map.{counted_numbers}
use Rattle.grid.specs.declared.Axis.{Axis}
use Rattle.grid.specs.declared.Range.{Range}
use Rattle.grid.proofs.Every.{every_same, every_at}
use Rattle.load.specs.Load.{all_within, axes_within, all_rise, map_check}
use Rattle.load.specs.Axes.{AxisCanHold, IsAxis}

-- ---- numbers put into an axis one by one
pub one_more : (places numbers : List ℕ) (i : ℕ) → i < length places → ((k : ℕ) → k < i → get_or places k 0 ≡ get_or numbers k 0)
    → (k : ℕ) → k < i + 1 → get_or (set places i (get_or numbers i 0)) k 0 ≡ get_or numbers k 0
one_more places numbers i inside before k l =
    below_more (λ k. get_or (set places i (get_or numbers i 0)) k 0 ≡ get_or numbers k 0) i
    (λ k below. get_or-set_other places i k (get_or numbers i 0) 0 (λ e. omega (arith, e, below)) ∙ before k below)
    (get_or-set_same places i (get_or numbers i 0) 0 inside) k l

pub axis_is : {places : ℕ} (numbers all : List ℕ) → length numbers ≤ places → length all ≡ places → ((k : ℕ) → k < length numbers → get_or all k 0 ≡ get_or numbers k 0)
    → IsAxis {places = places} numbers (record { numbers = all; count = length numbers })
axis_is numbers all few long same = record {
  count = refl;
  numbers = same_number_lists _ _ (omega (arith, length-take (length numbers) all, few, long)) (λ k l. get_or-take (length numbers) all k 0 (omega (arith, l, length-take (length numbers) all)) ∙ same k (omega (arith, l, length-take (length numbers) all)));
}

-- ---- an axis that was made has the numbers, and so the same tests
module _ {places : ℕ} (range : Range) (ns : List ℕ) (axis : Axis places) (is : IsAxis ns axis) (least : 2 ≤ length ns) (most : length ns ≤ places) where
  same_number : (i : ℕ) → i < axis.count → get_or axis.numbers i 0 ≡ get_or ns i 0
  same_number i l = sym (get_or-take axis.count axis.numbers i 0 l) ∙ ap (λ l. get_or l i 0) is.numbers

  same_rise : (i : ℕ) → i < axis.count → rises axis.numbers i ≡ rises ns i
  unfolding rises
  same_rise i l = rw (same_number i l, same_number (i - 1) (omega (arith, l))) refl

  pub valid_is : all_within range ns ≡ true → valid_numbers places range axis.numbers axis.count ≡ all_rise ns
  unfolding valid_numbers
  valid_is in_range =
      let each : every (λ i. within range (get_or axis.numbers i 0) && rises axis.numbers i) axis.count ≡ every (rises ns) axis.count =
      every_same _ _ axis.count (λ i l. rw (same_number i l, every_at (λ i. within range (get_or ns i 0)) (length ns) in_range i (omega (arith, l, is.count))) (same_rise i l)) in
      rw (le-leb 2 axis.count (omega (arith, least, is.count)), le-leb axis.count places (omega (arith, most, is.count)), each, is.count) refl

  pub step_is : first_step axis.numbers ≡ first_step ns
  unfolding first_step
  step_is = rw (same_number 0 (omega (arith, least, is.count)), same_number 1 (omega (arith, least, is.count))) refl

  pub as_long : length (counted_numbers axis) ≡ axis.count
  as_long = rw is.numbers (sym is.count)

-- a number in a range that ends below 65,536 is one that an axis can hold
pub small_numbers : (range : Range) (ns : List ℕ) → range.highest < 65536 → all_within range ns ≡ true → AxisCanHold ns
unfolding within
small_numbers range ns highest in_range i l =
    let each = and_parts (leb range.lowest (get_or ns i 0)) (leb (get_or ns i 0) range.highest) (every_at (λ i. within range (get_or ns i 0)) (length ns) in_range i l) in
    omega (arith, highest, leb-true _ _ each.1)

-- ---- the refusals
module _ (speeds torques : List ℕ) (m : LossMap) (lent : ℕ) (speeds_are : m.speeds ≡ speeds) (torques_are : m.torques ≡ torques) where
  pub out_of_range : axes_within speeds torques ≡ false → map_check m lent ≡ refuse 4 0
  unfolding map_check
  out_of_range out = rw (speeds_are, torques_are, out) refl

  pub not_rising : axes_within speeds torques ≡ true → (all_rise speeds && all_rise torques) ≡ false → map_check m lent ≡ refuse 5 0
  unfolding map_check
  not_rising within out = rw (speeds_are, torques_are, within, out) refl

  pub above_step : axes_within speeds torques ≡ true → (all_rise speeds && all_rise torques) ≡ true → first_step torques ≡ false → map_check m lent ≡ refuse 6 0
  unfolding map_check
  above_step within rise out = rw (speeds_are, torques_are, within, rise, out) refl
