-- Laws of the tests of numbers that are handed over. Assumes nothing.
use Prim.Native.Nat.{ℕ, ◌≤◌, ◌<◌}
use mathlib.Core.Path.{◌≡◌}
use mathlib.Core.List.{List}
use borrow.Author.Tests.{lt-leb}
use lib.ListN.{length}
use lib.Dec.{leb}
use mathlib.Core.Logic.{◌⊎◌, inl, inr}
use Rattle.refusal.specs.Outcome.{Outcome, accepted, refuse, without_place}
use Rattle.refusal.proofs.Steps.{then_accepted, test_accepted}
use Rattle.grid.specs.Axis.{◌to◌, within, axis_numbers}
use Rattle.grid.specs.declared.Range.{Range}
use Rattle.grid.specs.declared.Grid.{Grid}
use Rattle.grid.proofs.AxisLaws.{in_range, within_range}
use Rattle.grid.specs.Counted.{CountedNumbers}
use Rattle.grid.proofs.Every.{and_false}
use Rattle.numbers.specs.Check.{axis_check, axes_check}

-- ---- how many numbers an axis has
module _ (most : ℕ) (range : Range) (ns : List ℕ) (count : ℕ) where
  pub not_counted : (count < 2) ⊎ (most < count) → axis_check most range ns count ≡ refuse 3 0
  unfolding axis_check within
  not_counted (inl few) = rw (lt-leb 2 count few)
  not_counted (inr many) = rw (lt-leb count most many, and_false (leb 2 count))

  pub count_within : axis_check most range ns count ≡ accepted tt → (2 ≤ count) × (count ≤ most)
  unfolding axis_check
  count_within e = in_range (2 to most) count (test_accepted (within (2 to most) count) 3 0 _ tt e).0

-- the fault of an axis is told with place 0
pub fault_told : (most : ℕ) (range : Range) (ns part : List ℕ) (count : ℕ) → CountedNumbers most ns count part
    → (o : Outcome (Unit {0})) → o ≡ axis_numbers range part (length part)
    → axis_check most range ns count ≡ without_place o
unfolding axis_check
fault_told most range ns part count c o e =
    let told = rw (c.long, c.numbers) at e in
    rw (within_range (2 to most) count (c.at_least, c.at_most), told)

-- axes that are accepted have no more numbers than places
pub counts_within : (grid : Grid) → axes_check grid ≡ accepted tt → (grid.speeds.count ≤ 32) × (grid.torques.count ≤ 64)
unfolding axes_check
counts_within grid e =
    let s = then_accepted (axis_check 32 (1 to 3000) grid.speeds.numbers grid.speeds.count) _ tt e in
    let t = then_accepted (axis_check 64 (0 to 50000) grid.torques.numbers grid.torques.count) _ tt s.2 in
    ((count_within 32 (1 to 3000) _ _ s.1).1, (count_within 64 (0 to 50000) _ _ t.1).1)
