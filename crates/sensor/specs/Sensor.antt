-- Document 01, "Component data", tags 6 and 7, and document 02, C-11 (tag 9), C-12 and C-15 (place 0) and C-14 (32): a sensor's nine numbers.
use Rattle.std.specs.Prelude.{ℕ, List, [], ◌∷◌, length, get_or}
use Rattle.refusal.specs.Outcome.{Outcome, accepted, ◌>>=◌, refusal_with_index, require_told, first_refusal, without_place}
use Rattle.grid.specs.Axis.{within, ◌to◌}
use Rattle.grid.specs.Rules.{InRange}
use Rattle.grid.specs.declared.Range.{Range}
use Rattle.sensor.specs.declared.Sensor.{Sensor}

-- the range of each number, in their order
abbrev pub sensor_ranges : List Range
sensor_ranges =
    1 to 50000
    ∷ 0 to 10000
    ∷ 0 to 10000
    ∷ 0 to 10000
    ∷ 1000 to 10000
    ∷ 0 to 10000
    ∷ 0 to 1000
    ∷ 0 to 500
    ∷ 10 to 100
    ∷ []

-- the same of the sensor's numbers by their names
pub record SensorRules (s : Sensor) : Type 0 where
  pub nominal : InRange (1 to 50000) s.nominal
  pub sensitivity : InRange (0 to 10000) s.sensitivity
  pub zero : InRange (0 to 10000) s.zero
  pub calibration : InRange (0 to 10000) s.calibration
  pub advancement : InRange (1000 to 10000) s.advancement
  pub parasitic : InRange (0 to 10000) s.parasitic
  pub share : InRange (0 to 1000) s.share
  pub difference : InRange (0 to 500) s.difference
  pub span : InRange (10 to 100) s.span

-- every sensor keeps its rules
abbrev pub AllSensorRules : List Sensor → Type 0
AllSensorRules [] = Unit {0}
AllSensorRules (sensor ∷ sensors) = SensorRules sensor × AllSensorRules sensors

-- number i is in its range. Its index is told, and stands for its place.
unfoldable pub sensor_number_check : List ℕ → ℕ → Outcome (Unit {0})
sensor_number_check ns i = require_told (within (get_or sensor_ranges i (0 to 0)) (get_or ns i 0)) (refusal_with_index 32 i i)

-- "numbers left to right"
unfoldable pub sensor_check : List ℕ → Outcome (Unit {0})
sensor_check ns = first_refusal (sensor_number_check ns) 0 (length sensor_ranges)

-- N, w, z, c, k, s, p, d and R by their names
abbrev pub sensor_of : List ℕ → Sensor
sensor_of ns = record {
  nominal = get_or ns 0 0;
  sensitivity = get_or ns 1 0;
  zero = get_or ns 2 0;
  calibration = get_or ns 3 0;
  advancement = get_or ns 4 0;
  parasitic = get_or ns 5 0;
  share = get_or ns 6 0;
  difference = get_or ns 7 0;
  span = get_or ns 8 0;
}

-- and back: its nine numbers in their order
abbrev pub sensor_numbers : Sensor → List ℕ
sensor_numbers s =
    s.nominal
    ∷ s.sensitivity
    ∷ s.zero
    ∷ s.calibration
    ∷ s.advancement
    ∷ s.parasitic
    ∷ s.share
    ∷ s.difference
    ∷ s.span
    ∷ []

-- 32 of a sensor that stands at no offset: "with place 0"
abbrev pub check_without_place : Sensor → Outcome (Unit {0})
check_without_place sensor = without_place (sensor_check (sensor_numbers sensor))

-- the same of sensors, one after another
unfoldable pub sensors_check : List Sensor → Outcome (Unit {0})
sensors_check [] = accepted tt
sensors_check (sensor ∷ sensors) = do
  _ ← check_without_place sensor
  sensors_check sensors
