-- `axle::axle_retarder_drag` meets its contract. Assumes nothing.
use Rattle.axle.proofs.RetarderDrag.{drag_for_c}
use Rattle.axle.proofs.axle_retarder_drag.Goals as goal

pub returns : goal.returns
returns c = drag_for_c _ _ _ _ _ _ c.into.ensures c.drag.ensures.answer c.drag.ensures.accurate
