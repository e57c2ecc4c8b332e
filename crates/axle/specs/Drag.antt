-- What `axle_retarder_drag` promises for any readings, bearing losses, ratio and speed: the answer, and how near its drag is to the exact line.
use Rattle.std.specs.Prelude.{ℕ, ◌≡◌, List}
use Rattle.retarder.specs.Drag.{retarder_speed, drag_answer}
use Rattle.retarder.specs.Laws.{DragAccurate}
use Rattle.axle.specs.Interface.{drag_of}
use Rattle.axle.specs.declared.AxleDrag.{AxleDrag}

-- the whole answer, and where it is no refusal the law of its drag
pub record DragForC (readings bearing_losses : List ℕ) (ratio speed : ℕ) (a : AxleDrag) : Type 0 where
  pub answer : a ≡ drag_of (drag_answer readings bearing_losses ratio speed)
  pub accurate : a.refusal ≡ 0 → DragAccurate readings bearing_losses (retarder_speed ratio speed) a.drag
