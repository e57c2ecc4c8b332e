-- Document 01, "Component data" and "Refusals", and document 02, C-11 and C-14: the fields of component data in their order, and 12 where more follows.
use Rattle.std.specs.Prelude.{ℕ, ◌+◌, ◌*◌, List, [], ◌∷◌, leb, eqb, length, if◌then◌else◌}
use Rattle.refusal.specs.Outcome.{refusal, Outcome, accepted, ◌>>=◌, require}
use Rattle.grid.specs.Axis.{◌to◌, first_step}
use Rattle.fields.specs.Field.{field, exactly, numbers, number, ratio_refusal, axis}
use Rattle.fields.specs.Sensor.{sensor}
use Rattle.sensor.specs.declared.Sensor.{Sensor}

-- the rows of tag 8 or 10: the bytes of its body, and the place of the first
pub record Rows : Type 0 where
  pub start : ℕ
  pub bytes : List ℕ

-- the kind, with the fields that only measured data has
pub data Kind : Type 0 where
  standard : Kind
  measured : (input : Sensor) (outputs : List Sensor) (rows : Rows) → Kind

-- how many sensors there are: that of the input, and those of the outputs
abbrev pub sensor_count : List Sensor → ℕ
sensor_count outputs = 1 + length outputs

-- the number that tag 1 has for it: measured data has as many sensors
abbrev pub kind_number : Kind → ℕ
kind_number standard = 1
kind_number (measured input outputs rows) = sensor_count outputs

-- the tags of a measured kind's output sensors: one, or left and right
unfoldable pub output_tags : ℕ → List ℕ
output_tags kind = 7 ∷ (if eqb kind 2 then [] else 9 ∷ [])

-- and of all its sensors: that of the input is first
abbrev pub sensor_tags : ℕ → List ℕ
sensor_tags kind = 6 ∷ output_tags kind

-- the tag of its rows
unfoldable pub rows_tag : ℕ → ℕ
rows_tag kind = if eqb kind 2 then 8 else 10

-- how many bytes a row has: four for the torque of each sensor, of which there are as many as the kind's number
abbrev pub row_length : (sensors : ℕ) → ℕ
row_length sensors = 4 * sensors

-- what component data says
pub record Component : Type 0 where
  pub kind : Kind
  pub line : ℕ
  pub ratio : ℕ
  pub speeds : List ℕ
  pub torques : List ℕ

-- what a run of fields says, and the place past it
pub record Run (A : Type 0) : Type 0 where
  pub value : A
  pub next : ℕ

-- tags 1 to 3
pub record Axle : Type 0 where
  pub kind : ℕ
  pub line : ℕ
  pub ratio : ℕ

unfoldable pub axle_fields : List ℕ → ℕ → Outcome (Run Axle)
axle_fields bytes at = do
  kind ← field bytes at 1 (exactly 1) (number (1 to 3) (refusal 4))
  line ← field bytes kind.next 2 (exactly 1) (number (1 to 5) (refusal 4))
  ratio ← field bytes line.next 3 (exactly 2) (number (1000 to 20000) ratio_refusal)
  accepted (record {
    value = record { kind = kind.value; line = line.value; ratio = ratio.value };
    next = ratio.next;
  })

-- tags 4 and 5; 6 is tested once every torque is right
pub record AxesNumbers : Type 0 where
  pub speeds : List ℕ
  pub torques : List ℕ

unfoldable pub axes_fields : List ℕ → ℕ → Outcome (Run AxesNumbers)
axes_fields bytes at = do
  speeds ← field bytes at 4 (numbers 2 32) (axis (1 to 3000))
  torques ← field bytes speeds.next 5 (numbers 2 64) (axis (0 to 50000))
  _ ← require (first_step torques.value) 6 torques.start
  accepted (record {
    value = record { speeds = speeds.value; torques = torques.value };
    next = torques.next;
  })

-- sensors, one after another, each with its tag
unfoldable pub sensor_fields : List ℕ → ℕ → (tags : List ℕ) → Outcome (Run (List Sensor))
sensor_fields bytes at [] = accepted (record { value = []; next = at })
sensor_fields bytes at (tag ∷ tags) = do
  first ← field bytes at tag (exactly 18) sensor
  others ← sensor_fields bytes first.next tags
  accepted (record { value = first.value ∷ others.value; next = others.next })

-- the body of tag 8 or 10, which is looked at only when a map is built
abbrev pub rows : List ℕ → ℕ → Outcome Rows
rows body place = accepted (record { start = place; bytes = body })

-- from tag 6 on, for so many points: the input's sensor, the outputs' sensors, and a row for each point
unfoldable pub measured_fields : List ℕ → ℕ → ℕ → ℕ → Outcome (Run Kind)
measured_fields bytes at kind points = do
  input ← field bytes at 6 (exactly 18) sensor
  outputs ← sensor_fields bytes input.next (output_tags kind)
  body ← field bytes outputs.next (rows_tag kind) (exactly (row_length kind * points)) rows
  accepted (record { value = measured input.value outputs.value body.value; next = body.next })

-- what follows the axes
unfoldable pub kind_fields : List ℕ → ℕ → ℕ → ℕ → Outcome (Run Kind)
kind_fields bytes at kind points =
    if eqb kind 1 then accepted (record { value = standard; next = at }) else
    measured_fields bytes at kind points

-- component data: the fields in their order, then nothing more
unfoldable pub component : List ℕ → Outcome Component
component bytes = do
  axle ← axle_fields bytes 0
  axes ← axes_fields bytes axle.next
  kind ← kind_fields bytes axes.next axle.value.kind (length axes.value.speeds * length axes.value.torques)
  _ ← require (leb (length bytes) kind.next) 12 kind.next
  accepted (record {
    kind = kind.value;
    line = axle.value.line;
    ratio = axle.value.ratio;
    speeds = axes.value.speeds;
    torques = axes.value.torques;
  })
