-- Document 02, C-17: the drag of a retarder. Torques are in hundredths of Nm.
use Rattle.std.specs.Prelude.{ℕ, ◌+◌, ◌-◌, ◌*◌, Bool, ◌&&◌, List, leb, eqb, length, take, get_or}
use Rattle.arith.specs.Fraction.{Fraction, whole, ◌⊕◌, ◌⊗◌, round_up}
use Rattle.refusal.specs.Outcome.{Outcome, accepted, ◌>>=◌, require}
use Rattle.grid.specs.Every.{every}
use Rattle.cell.specs.Cell.{lower, upper, share}
use Rattle.lookup.specs.Loss.{neighbour}
use Rattle.retarder.specs.SpeedPoints.{speed_points, units_per_rpm, speed_point}

-- the drive speed, in tenths of rpm, "times the step-up ratio", in thousandths: in ten-thousandths of rpm
abbrev pub retarder_speed : (ratio speed : ℕ) → ℕ
retarder_speed ratio speed = speed * ratio

-- the ratio and the count are within their limits, and readings and bearing losses not "unequal in number": where this does not hold it is 45
abbrev pub within_limits : (readings bearing_losses : List ℕ) (ratio : ℕ) → Bool
within_limits readings bearing_losses ratio =
    (leb 100 ratio && leb ratio 10000)
    && ((leb 2 (length readings) && leb (length readings) 13) && eqb (length bearing_losses) (length readings))

-- a reading is not below its bearing loss, and its drag not above the largest: where this does not hold of every reading it is 46
abbrev pub drag_fits : (reading bearing_loss : ℕ) → Bool
drag_fits reading bearing_loss = leb bearing_loss reading && leb (reading - bearing_loss) 10000000

abbrev pub drags_fit : (readings bearing_losses : List ℕ) → Bool
drags_fit readings bearing_losses = every (λ i. drag_fits (get_or readings i 0) (get_or bearing_losses i 0)) (length readings)

-- the retarder speed v is within the speed points that have a reading: where this does not hold it is 47
abbrev pub speed_within : (readings : List ℕ) (v : ℕ) → Bool
speed_within readings v = leb (speed_point 0) v && leb v (speed_point (length readings - 1))

module _ (readings bearing_losses : List ℕ) where
  -- the drag at speed point i: its reading "less the bearing loss"
  abbrev pub point_drag : (i : ℕ) → ℕ
  point_drag i = get_or readings i 0 - get_or bearing_losses i 0

  -- "linear": at the retarder speed v, on the line from speed point i to the next
  unfoldable pub exact_drag : (v i : ℕ) → Fraction
  exact_drag v i =
      let x = speed_point i in
      let y = speed_point (i + 1) in
      share x y v lower ⊗ whole (point_drag i) ⊕ share x y v upper ⊗ whole (point_drag (i + 1))

  -- "rounded up once", on the line from the lower neighbour of v among the speed points that have a reading
  unfoldable pub drag_at : (v : ℕ) → ℕ
  drag_at v = round_up (exact_drag v (neighbour (take (length readings) speed_points) units_per_rpm v))

  -- 45, 46 and 47 "in this order"
  unfoldable pub drag_answer : (ratio speed : ℕ) → Outcome ℕ
  drag_answer ratio speed =
      let v = retarder_speed ratio speed in
      do
        _ ← require (within_limits readings bearing_losses ratio) 45 0
        _ ← require (drags_fit readings bearing_losses) 46 0
        _ ← require (speed_within readings v) 47 0
        accepted (drag_at v)
