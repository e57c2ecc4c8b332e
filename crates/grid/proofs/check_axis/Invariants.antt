-- `grid::check_axis` meets its contract. The invariant: the outcome of all numbers is that of the numbers from i on. Assumes nothing.
use Rattle.std.proofs.Common.{◌≡◌, ◌-◌, length}
use Rattle.refusal.specs.Outcome.{first_refusal}
use Rattle.grid.specs.Axis.{axis_number, axis_numbers}
use Rattle.grid.proofs.check_axis.Given as goal

abbrev pub invariant-loop-i : goal.invariant-loop-i
invariant-loop-i l =
    axis_numbers l.range l.numbers (length l.numbers) ≡ first_refusal (axis_number l.range l.numbers) l.i (length l.numbers - l.i)
