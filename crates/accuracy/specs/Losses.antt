-- Document 01, "Accuracy over whole numbers", of many questions asked at once: each answer is held as that of one question is.
use Rattle.std.specs.Prelude.{ℕ, ◌<◌, ◌≡◌, List, ℤ, pos, length, get_or}
use Rattle.refusal.specs.Outcome.{accepted}
use Rattle.grid.specs.declared.Grid.{Grid}
use Rattle.component.specs.Component.{Component, component}
use Rattle.cell.specs.declared.Point.{Point}
use Rattle.lookup.specs.Losses.{point_at}
use Rattle.accuracy.specs.Demand.{Answered}

-- the loss at a point is an answer that is held
pub record AnsweredWith (c : Component) (grid : Grid) (entries : List ℕ) (p : Point) (loss : ℤ) : Type 0 where
  pub answer : Answered c grid entries p
  pub same : answer.loss ≡ loss

-- of data, of the map that its build leaves, and of the losses at many points
pub record LossesAccurate (bytes : List ℕ) (grid : Grid) (entries : List ℕ) (points : List Point) (losses : List ℤ) : Type 0 where
  pub says : Component
  pub read : component bytes ≡ accepted says
  pub each : (i : ℕ) → i < length points → AnsweredWith says grid entries (point_at points i) (get_or losses i (pos 0))
