-- Document 02, C-12: what numbers that are handed over say as component data, and the numbers that component data says.
use Rattle.std.specs.Prelude.{ℕ, zero, suc, ◌+◌, ◌≡◌, List, [], ◌∷◌, length}
use Rattle.grid.specs.Map.{counted_numbers}
use Rattle.grid.specs.Parts.{grid_of}
use Rattle.grid.specs.declared.Grid.{Grid}
use Rattle.sensor.specs.declared.Sensor.{Sensor}
use Rattle.component.specs.Component.{Component, Rows, Kind, standard, measured, kind_number}
use Rattle.component.specs.Answers.{kind_of, outputs_of, no_sensor}
use Rattle.layout.specs.Layout.{torque_bytes, torques_in}
use Rattle.layout.specs.Rules.{rows_head, Rules}
use Rattle.numbers.specs.declared.Numbers.{Numbers}

-- the rows: a torque has four bytes, and the first row stands after the head of their field
abbrev pub rows_said : (kind : ℕ) → Grid → (row_torques : List ℕ) → Rows
rows_said kind grid row_torques = record {
  start = rows_head kind (length (counted_numbers grid.speeds)) (length (counted_numbers grid.torques)) + 3;
  bytes = torque_bytes row_torques;
}

-- what the numbers say, with the torques of the rows in the order of the data
abbrev pub says : Numbers → (row_torques : List ℕ) → Component
says g row_torques = record {
  kind = kind_of g.kind g.input (outputs_of g.kind g.output g.right) (rows_said g.kind g.grid row_torques);
  line = g.line;
  ratio = g.ratio;
  speeds = counted_numbers g.grid.speeds;
  torques = counted_numbers g.grid.torques;
}

-- the counts among the numbers are those of what they say: the kind, which is the number of sensors of a measured kind, and how many numbers each axis has
pub record CountsSaid (g : Numbers) (row_torques : List ℕ) : Type 0 where
  pub kind : kind_number (says g row_torques).kind ≡ g.kind
  pub speeds : length (counted_numbers g.grid.speeds) ≡ g.grid.speeds.count
  pub torques : length (counted_numbers g.grid.torques) ≡ g.grid.torques.count

-- the numbers keep every rule of the fields
pub record NumbersRules (g : Numbers) (row_torques : List ℕ) : Type 0 where
  pub counts : CountsSaid g row_torques
  pub rules : Rules (says g row_torques)

-- ---- the other way: the numbers that component data says; what the kind does not have is of no account
abbrev sensors_in : Kind → List Sensor
sensors_in standard = []
sensors_in (measured input outputs rows) = input ∷ outputs

abbrev sensor_at : List Sensor → ℕ → Sensor
sensor_at [] i = no_sensor
sensor_at (sensor ∷ sensors) zero = sensor
sensor_at (sensor ∷ sensors) (suc i) = sensor_at sensors i

abbrev pub numbers_of : Component → Numbers
numbers_of c = record {
  kind = kind_number c.kind;
  line = c.line;
  ratio = c.ratio;
  grid = grid_of c.speeds (length c.speeds) c.torques (length c.torques);
  input = sensor_at (sensors_in c.kind) 0;
  output = sensor_at (sensors_in c.kind) 1;
  right = sensor_at (sensors_in c.kind) 2;
}

-- the torques of its rows
abbrev row_torques_in : Kind → List ℕ
row_torques_in standard = []
row_torques_in (measured input outputs rows) = torques_in rows.bytes

abbrev pub row_torques_of : Component → List ℕ
row_torques_of c = row_torques_in c.kind
