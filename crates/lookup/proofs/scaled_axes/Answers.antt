-- `lookup::scaled_axes` meets its contract. Assumes nothing.
use Rattle.std.proofs.Common.{arith}
use Rattle.lookup.proofs.Axes.{grid_axes, grid_counts}
use Rattle.lookup.proofs.scaled_axes.Goals as goal

pub invariant_of-speeds : goal.invariant_of-speeds
invariant_of-speeds c =
    let axis = (grid_axes _ c.requires).speeds in
    record {
      two = rw c.counted_numbers.ensures.numbers axis.two;
      few = rw c.counted_numbers.ensures.numbers (omega (arith, grid_counts _ c.requires));
      rising = rw c.counted_numbers.ensures.numbers axis.rises;
      positive = omega arith;
      fits = omega arith;
    }

pub invariant_of-torques : goal.invariant_of-torques
invariant_of-torques c =
    let axis = (grid_axes _ c.requires).torques in
    record {
      two = rw c.counted_numbers-2.ensures.numbers axis.two;
      few = rw c.counted_numbers-2.ensures.numbers (omega (arith, grid_counts _ c.requires));
      rising = rw c.counted_numbers-2.ensures.numbers axis.rises;
      positive = omega arith;
      fits = omega arith;
    }
