-- What the code's answers say in document 01's terms.
use Rattle.std.specs.Prelude.{ℕ, ◌+◌, ◌≤◌, List, [], ◌∷◌, ◌≡◌, eqb, length, if◌then◌else◌, Option, Some, None, Result, IfOk, IfSome}
use Rattle.refusal.specs.Outcome.{Outcome}
use Rattle.refusal.specs.Table.{outcome_as}
use Rattle.refusal.specs.declared.Refusal.{Refusal}
use Rattle.grid.specs.Map.{counted_numbers}
use Rattle.grid.specs.LossMap.{CountsWithin}
use Rattle.grid.specs.declared.Grid.{Grid}
use Rattle.component.specs.Component.{Run, Axle as AxleSays, AxesNumbers, Rows as RowsSay, Kind, standard, measured, Component as ComponentSays, component}
use Rattle.sensor.specs.declared.Sensor.{Sensor}
use Rattle.component.specs.declared.Kind.{Kind as KindRead}
use Rattle.component.specs.declared.Kind.TheVariants.{Standard, Measured, HalfShafts}
use Rattle.fields.specs.declared.Cursor.{Cursor}
use Rattle.component.specs.declared.Axle.{Axle}
use Rattle.component.specs.declared.Outputs.{Outputs}
use Rattle.component.specs.declared.rows.Rows.{Rows}
use Rattle.component.specs.declared.Measured.{Measured as MeasuredRead}
use Rattle.component.specs.declared.Component.{Component}

-- the number that tag 1 has for a kind
abbrev pub number_of : KindRead → ℕ
number_of Standard = 1
number_of Measured = 2
number_of HalfShafts = 3

-- what a run of fields says, and the place of the cursor past it
abbrev pub run_of : {A B : Type 0} → (A → B) → A × Cursor → Run B
run_of meaning run = record { value = meaning run.0; next = run.1.at }

-- what reading a run of fields where a cursor stands gives: its outcome; and where it was read, the cursor past it is in the same data
pub record RunOf {A B : Type 0} (start : Cursor) (fields : List ℕ → ℕ → Outcome (Run B)) (meaning : A → B) (result : Result (A × Cursor) Refusal) : Type 0 where
  pub outcome : outcome_as (run_of meaning) result ≡ fields start.data.now start.at
  pub same_data : IfOk result (λ run. run.1.data ≡ start.data)

abbrev pub axle_of : Axle → AxleSays
axle_of axle = record { kind = number_of axle.kind; line = axle.line; ratio = axle.ratio }

abbrev pub axes_of : Grid → AxesNumbers
axes_of grid = record { speeds = counted_numbers grid.speeds; torques = counted_numbers grid.torques }

abbrev pub rows_of : Rows → RowsSay
rows_of rows = record { start = rows.start; bytes = rows.bytes.now }

-- rows that end within so many bytes
abbrev pub RowsWithin : ℕ → Rows → Type 0
RowsWithin size rows = rows.start + length rows.bytes.now ≤ size

-- the output sensors: one, or left and right
abbrev pub output_sensors : (output : Sensor) (right : Option Sensor) → List Sensor
output_sensors output None = output ∷ []
output_sensors output (Some right) = output ∷ right ∷ []

abbrev pub outputs_in : Outputs → List Sensor
outputs_in outputs = output_sensors outputs.output outputs.right

-- the kind, with the fields that only measured data has
abbrev pub measured_in : MeasuredRead → Kind
measured_in m = measured m.input (output_sensors m.output m.right) (rows_of m.rows)

abbrev pub kind_in : Option MeasuredRead → Kind
kind_in None = standard
kind_in (Some m) = measured_in m

-- of numbers that are handed over: the output sensors of a measured kind by its number; of kind 2 the right one means nothing
abbrev pub outputs_of : (kind : ℕ) (output right : Sensor) → List Sensor
outputs_of kind output right = output ∷ (if eqb kind 2 then [] else right ∷ [])

-- and the kind by its number
abbrev pub kind_of : ℕ → Sensor → List Sensor → RowsSay → Kind
kind_of kind input outputs rows = if eqb kind 1 then standard else measured input outputs rows

-- what stands in place of a sensor where there is none: it means nothing
abbrev pub no_sensor : Sensor
no_sensor = record {
  nominal = 0;
  sensitivity = 0;
  zero = 0;
  calibration = 0;
  advancement = 0;
  parasitic = 0;
  share = 0;
  difference = 0;
  span = 0;
}

-- the numbers that the code's component holds, in document 01's terms: places past an axis's count mean nothing
abbrev pub component_of : Component → ComponentSays
component_of c = record {
  kind = kind_in c.measured;
  line = c.line;
  ratio = c.ratio;
  speeds = counted_numbers c.grid.speeds;
  torques = counted_numbers c.grid.torques;
}

-- what `read` promises for every byte sequence: which refusal with its number, place and index, or which numbers
pub record Reads (bytes : List ℕ) (r : Result Component Refusal) : Type 0 where
  pub outcome : outcome_as component_of r ≡ component bytes
  pub counts : IfOk r (λ c. CountsWithin c.grid)
  pub rows : IfOk r (λ c. IfSome c.measured (λ m. RowsWithin (length bytes) m.rows))
