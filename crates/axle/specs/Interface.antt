-- An answer as C has it: the number of the refusal in document 01's table, 0 where there is none (no row of the table has the number 0), its place, and the values, which are 0 where it is refused. Where a refusal can say which number of its field it was, also whether it says so, and that number.
use Rattle.std.specs.Prelude.{ℕ, ℤ, pos, Option, Some, None, Result, Ok, Err}
use Rattle.refusal.specs.Outcome.{Outcome, accepted, refused}
use Rattle.refusal.specs.Table.{number, place, index}
use Rattle.refusal.specs.declared.Refusal.{Refusal}
use Rattle.lookup.specs.declared.GridPoint.{GridPoint}
use Rattle.loss.specs.declared.Steps.{Steps}
use Rattle.grid.specs.Parts.{grid_of}
use Rattle.sensor.specs.Sensor.{sensor_of}
use Rattle.numbers.specs.declared.Numbers.{Numbers}
use Rattle.axle.specs.declared.Status.{Status}
use Rattle.axle.specs.declared.AxleLoss.{AxleLoss}
use Rattle.axle.specs.declared.AxleNearest.{AxleNearest}
use Rattle.axle.specs.declared.AxleLength.{AxleLength}
use Rattle.axle.specs.declared.AxleWritten.{AxleWritten}
use Rattle.axle.specs.declared.AxleSteps.{AxleSteps}
use Rattle.axle.specs.declared.AxleDrag.{AxleDrag}
use Rattle.axle.specs.declared.AxleLosses.{AxleLosses}
use Rattle.axle.specs.declared.AxleNumbers.{AxleNumbers}

-- whether an index is told, 1 or 0
abbrev pub has_index : Option ℕ → ℕ
has_index None = 0
has_index (Some i) = 1

-- and the index, 0 where none is
abbrev pub index_or_zero : Option ℕ → ℕ
index_or_zero None = 0
index_or_zero (Some i) = i

-- the index of an answer's refusal, where it has one
abbrev pub index_of : {A : Type 0} → Result A Refusal → Option ℕ
index_of (Ok value) = None
index_of (Err x) = index x

abbrev pub status_of : {A : Type 0} → Result A Refusal → Status
status_of (Ok value) = record { refusal = 0; place = 0; has_index = 0; index = 0 }
status_of (Err x) = record { refusal = number x; place = place x; has_index = has_index (index x); index = index_or_zero (index x) }

abbrev pub loss_of : Outcome ℤ → AxleLoss
loss_of (accepted z) = record { refusal = 0; place = 0; loss = z }
loss_of (refused t) = record { refusal = t.number; place = t.place; loss = pos 0 }

abbrev pub nearest_of : Outcome GridPoint → AxleNearest
nearest_of (accepted p) = record { refusal = 0; place = 0; speed = p.speed; torque = p.torque }
nearest_of (refused t) = record { refusal = t.number; place = t.place; speed = 0; torque = 0 }

-- why many questions are refused; the index is that of a point
abbrev pub losses_of : {A : Type 0} → Outcome A → AxleLosses
losses_of (accepted losses) = record { refusal = 0; has_point = 0; place = 0; point = 0 }
losses_of (refused t) = record { refusal = t.number; has_point = has_index t.index; place = t.place; point = index_or_zero t.index }

-- the length of a listing
abbrev pub length_of : Outcome ℕ → AxleLength
length_of (accepted n) = record { refusal = 0; place = 0; length = n }
length_of (refused t) = record { refusal = t.number; place = t.place; length = 0 }

-- the length of a file that was written
abbrev pub written_of : Outcome ℕ → AxleWritten
written_of (accepted n) = record { refusal = 0; has_index = 0; place = 0; index = 0; length = n }
written_of (refused t) = record { refusal = t.number; has_index = has_index t.index; place = t.place; index = index_or_zero t.index; length = 0 }

-- the steps of a sensor
abbrev with_steps : (refusal has_index place index : ℕ) → Steps → AxleSteps
with_steps refusal has_index place index steps = record {
  refusal = refusal;
  has_index = has_index;
  place = place;
  index = index;
  temperature_on_sensitivity = steps.temperature_on_sensitivity;
  temperature_on_zero = steps.temperature_on_zero;
  calibration = steps.calibration;
  parasitic_loads = steps.parasitic_loads;
  uncertainty = steps.uncertainty;
}

abbrev no_steps : Steps
no_steps = record { temperature_on_sensitivity = 0; temperature_on_zero = 0; calibration = 0; parasitic_loads = 0; uncertainty = 0 }

abbrev pub steps_of : Outcome Steps → AxleSteps
steps_of (accepted steps) = with_steps 0 0 0 0 steps
steps_of (refused t) = with_steps t.number (has_index t.index) t.place (index_or_zero t.index) no_steps

-- the drag of a retarder
abbrev pub drag_of : Outcome ℕ → AxleDrag
drag_of (accepted n) = record { refusal = 0; place = 0; drag = n }
drag_of (refused t) = record { refusal = t.number; place = t.place; drag = 0 }

-- numbers that C hands over
abbrev pub numbers_in : AxleNumbers → Numbers
numbers_in n = record {
  kind = n.kind;
  line = n.line;
  ratio = n.ratio;
  grid = grid_of n.speeds n.speed_count n.torques n.torque_count;
  input = sensor_of n.input;
  output = sensor_of n.output;
  right = sensor_of n.right;
}
