-- Document 02, C-17, as laws: when there is a drag, and how near it is to the exact line.
use Rattle.std.specs.Prelude.{ℕ, ◌+◌, ◌-◌, ◌≤◌, ◌<◌, ◌≡◌, List, pos, length, min, max, get_or}
use Rattle.arith.specs.Fraction.{RoundsUp, Same}
use Rattle.refusal.specs.Outcome.{Told, refusal, accepted, refused}
use Rattle.retarder.specs.SpeedPoints.{speed_point}
use Rattle.retarder.specs.Drag.{retarder_speed, point_drag, exact_drag, drag_at, drag_answer}

-- the rules of 45
pub record WithinLimits (readings bearing_losses : List ℕ) (ratio : ℕ) : Type 0 where
  pub ratio_from : 100 ≤ ratio
  pub ratio_upto : ratio ≤ 10000
  pub count_from : 2 ≤ length readings
  pub count_upto : length readings ≤ 13
  pub equal_in_number : length bearing_losses ≡ length readings

-- those of 46, at every reading
abbrev pub DragsFit : (readings bearing_losses : List ℕ) → Type 0
DragsFit readings bearing_losses =
    (i : ℕ) → i < length readings → (get_or bearing_losses i 0 ≤ get_or readings i 0) × (point_drag readings bearing_losses i ≤ 10000000)

-- and those of 47, of the retarder speed v
pub record SpeedWithin (readings : List ℕ) (v : ℕ) : Type 0 where
  pub from : speed_point 0 ≤ v
  pub upto : v ≤ speed_point (length readings - 1)

-- the segment from speed point i to the next has the retarder speed v, and both have a reading
pub record OnSegment (readings : List ℕ) (v i : ℕ) : Type 0 where
  pub readings_there : i + 1 < length readings
  pub from : speed_point i ≤ v
  pub upto : v ≤ speed_point (i + 1)

module _ (readings bearing_losses : List ℕ) where
  -- the answer is the exact drag rounded up, "never below the exact line" and "less than 0.01 Nm above", and between the drags at the two ends of the segment
  pub record NearLine (v i answer : ℕ) : Type 0 where
    pub rounded_up : RoundsUp (exact_drag readings bearing_losses v i) (pos answer)
    pub least : min (point_drag readings bearing_losses i) (point_drag readings bearing_losses (i + 1)) ≤ answer
    pub most : answer ≤ max (point_drag readings bearing_losses i) (point_drag readings bearing_losses (i + 1))

  -- an answer at the retarder speed v: some segment has v; of each that has it the answer is near the line; where two have it, they have one exact drag; and at a speed point that has a reading it is the drag there
  pub record DragAccurate (v answer : ℕ) : Type 0 where
    pub on_one : (i : ℕ) × OnSegment readings v i
    pub near_each : (i : ℕ) → OnSegment readings v i → NearLine v i answer
    pub same_line : (i j : ℕ) → OnSegment readings v i → OnSegment readings v j → Same (exact_drag readings bearing_losses v i) (exact_drag readings bearing_losses v j)
    pub on_point : (i : ℕ) → i < length readings → v ≡ speed_point i → answer ≡ point_drag readings bearing_losses i

  module _ (ratio speed : ℕ) where
    -- why a call is refused: the condition of its number, those tested before not holding
    pub data DragFault (told : Told) : Type 0 where
      out_of_limits : (WithinLimits readings bearing_losses ratio → ⊥) → told ≡ refusal 45 0 → DragFault told
      drag_out_of_range : WithinLimits readings bearing_losses ratio → (DragsFit readings bearing_losses → ⊥) → told ≡ refusal 46 0 → DragFault told
      speed_outside : WithinLimits readings bearing_losses ratio → DragsFit readings bearing_losses → (SpeedWithin readings (retarder_speed ratio speed) → ⊥) → told ≡ refusal 47 0
          → DragFault told

    -- a drag is answered exactly where no refusal applies, and is the one of the definition; a refusal is told exactly for its reason
    pub record DragDecided : Type 0 where
      pub answered : WithinLimits readings bearing_losses ratio → DragsFit readings bearing_losses → SpeedWithin readings (retarder_speed ratio speed)
          → drag_answer readings bearing_losses ratio speed ≡ accepted (drag_at readings bearing_losses (retarder_speed ratio speed))
      pub answered_only : (answer : ℕ) → drag_answer readings bearing_losses ratio speed ≡ accepted answer
          → WithinLimits readings bearing_losses ratio × DragsFit readings bearing_losses × SpeedWithin readings (retarder_speed ratio speed) × (answer ≡ drag_at readings bearing_losses (retarder_speed ratio speed))
      pub refused_for : (told : Told) → DragFault told → drag_answer readings bearing_losses ratio speed ≡ refused told
      pub refused_only : (told : Told) → drag_answer readings bearing_losses ratio speed ≡ refused told → DragFault told

-- whatever is handed over
pub record DragLaws : Type 0 where
  pub decided : (readings bearing_losses : List ℕ) (ratio speed : ℕ) → DragDecided readings bearing_losses ratio speed
  pub accurate : (readings bearing_losses : List ℕ) (ratio speed answer : ℕ) → drag_answer readings bearing_losses ratio speed ≡ accepted answer
      → DragAccurate readings bearing_losses (retarder_speed ratio speed) answer
