-- Many questions to a map that demand 3 speaks of: each answer is held. Assumes nothing.
use Rattle.std.proofs.Common.{ℕ, List, ℤ, sym, ◌∙◌}
use Rattle.refusal.proofs.Steps.{same_value}
use Rattle.grid.specs.declared.Grid.{Grid}
use Rattle.cell.specs.declared.Point.{Point}
use Rattle.lookup.specs.Losses.{point_at, EachLoss}
use Rattle.lookup.proofs.Queries.{answered_within}
use Rattle.accuracy.specs.Demand.{Accurate}
use Rattle.accuracy.specs.Losses.{LossesAccurate}

pub losses_accurate : (bytes : List ℕ) (grid : Grid) (entries : List ℕ) → Accurate bytes grid entries → (points : List Point) (losses : List ℤ) → EachLoss grid entries points losses
    → LossesAccurate bytes grid entries points losses
losses_accurate bytes grid entries accurate points losses single = record {
  says = accurate.says;
  read = accurate.read;
  each = λ i h.
      let within = (answered_within grid entries (point_at points i) _ (single i h)).1 in
      let answer = accurate.answers (point_at points i) (rw (accurate.speeds, accurate.torques) at within) in
      record { answer = answer; same = same_value _ _ (sym answer.answered ∙ single i h) };
}
