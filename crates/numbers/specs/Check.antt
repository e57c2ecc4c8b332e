-- Document 02, C-12 and C-14: the reader's tests 3 to 6, 31 and 32, in the reader's order and "with place 0", of numbers that are handed over.
use Rattle.std.specs.Prelude.{ℕ, ◌*◌, List, ◌∷◌, eqb, take, if◌then◌else◌}
use Rattle.refusal.specs.Outcome.{Outcome, accepted, ◌>>=◌, require_told, require, without_place}
use Rattle.grid.specs.Axis.{◌to◌, within, axis_numbers, first_step}
use Rattle.grid.specs.Map.{counted_numbers}
use Rattle.grid.specs.declared.Range.{Range}
use Rattle.grid.specs.declared.Grid.{Grid}
use Rattle.fields.specs.Field.{ratio_refusal}
use Rattle.sensor.specs.Sensor.{sensors_check}
use Rattle.component.specs.Answers.{outputs_of}
use Rattle.numbers.specs.declared.Numbers.{Numbers}

-- tags 1 to 3
unfoldable pub axle_check : (kind line ratio : ℕ) → Outcome (Unit {0})
axle_check kind line ratio = do
  _ ← require (within (1 to 3) kind) 4 0
  _ ← require (within (1 to 5) line) 4 0
  require_told (within (1000 to 20000) ratio) (ratio_refusal 0)

-- an axis: 2 to most numbers, then each of them
unfoldable pub axis_check : (most : ℕ) → Range → (numbers : List ℕ) (count : ℕ) → Outcome (Unit {0})
axis_check most range numbers count = do
  _ ← require (within (2 to most) count) 3 0
  without_place (axis_numbers range (take count numbers) count)

-- tags 4 and 5
unfoldable pub axes_check : Grid → Outcome (Unit {0})
axes_check grid = do
  _ ← axis_check 32 (1 to 3000) grid.speeds.numbers grid.speeds.count
  _ ← axis_check 64 (0 to 50000) grid.torques.numbers grid.torques.count
  require (first_step (counted_numbers grid.torques)) 6 0

-- from tag 6 on: the sensors that the kind has, and a torque of each of them at each point; "for kind 1, sensors and rows aren't looked at"
unfoldable pub measured_check : Numbers → (row_torque_count : ℕ) → Outcome (Unit {0})
measured_check g row_torque_count =
    if eqb g.kind 1 then accepted tt else do
      _ ← sensors_check (g.input ∷ outputs_of g.kind g.output g.right)
      require (eqb row_torque_count (g.kind * (g.grid.speeds.count * g.grid.torques.count))) 3 0

-- all of them, where the rows have so many torques
unfoldable pub numbers_check : Numbers → (row_torque_count : ℕ) → Outcome (Unit {0})
numbers_check g row_torque_count = do
  _ ← axle_check g.kind g.line g.ratio
  _ ← axes_check g.grid
  measured_check g row_torque_count
