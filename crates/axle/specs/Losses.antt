-- What `axle_losses` promises for any axes, entries, points and lent losses: the answer, the whole content of the losses, and that each is the one of a single question.
use Rattle.std.specs.Prelude.{ℕ, ◌≡◌, List, ℤ, length}
use Rattle.grid.specs.declared.Grid.{Grid}
use Rattle.cell.specs.declared.Point.{Point}
use Rattle.lookup.specs.Losses.{losses_answer, losses_after, EachLoss}
use Rattle.accuracy.specs.Demand.{Accurate}
use Rattle.accuracy.specs.Losses.{LossesAccurate}
use Rattle.axle.specs.Interface.{losses_of}
use Rattle.axle.specs.declared.AxleLosses.{AxleLosses}

pub record LossesForC (grid : Grid) (entries : List ℕ) (points : List Point) (before after : List ℤ) (a : AxleLosses) : Type 0 where
  pub answer : a ≡ losses_of (losses_answer grid entries points (length before))
  -- on a refusal as they were
  pub losses : after ≡ losses_after (losses_answer grid entries points (length before)) before
  pub single : a.refusal ≡ 0 → EachLoss grid entries points after
  -- demand 3 of each, where it holds of the map, as `axle_build` promises of the map that it leaves
  pub accurate : a.refusal ≡ 0 → (bytes : List ℕ) → Accurate bytes grid entries → LossesAccurate bytes grid entries points after
