-- Document 01, "Component data", and document 02, C-11, the other way round: the bytes that numbers are laid out as.
use Rattle.std.specs.Prelude.{ℕ, ◌/◌, ◌%◌, List, [], ◌∷◌, ◌++◌, length}
use Rattle.component.specs.Component.{Component, Kind, standard, measured, sensor_count, kind_number, sensor_tags, rows_tag}
use Rattle.fields.specs.Bytes.{number_of}
use Rattle.sensor.specs.Sensor.{sensor_numbers}
use Rattle.sensor.specs.declared.Sensor.{Sensor}

-- a number as two bytes, "most significant byte first"
abbrev pub two_bytes : ℕ → List ℕ
two_bytes n = n / 256 ∷ n % 256 ∷ []

-- a number as four bytes
abbrev pub four_bytes : ℕ → List ℕ
four_bytes n = n / 16777216 ∷ n / 65536 % 256 ∷ n / 256 % 256 ∷ n % 256 ∷ []

-- numbers one after another, each as its bytes
unfoldable pub encoded : (ℕ → List ℕ) → List ℕ → List ℕ
encoded bytes_of [] = []
encoded bytes_of (n ∷ ns) = bytes_of n ++ encoded bytes_of ns

-- numbers of two bytes each
abbrev pub number_bytes : List ℕ → List ℕ
number_bytes ns = encoded two_bytes ns

-- the torques of rows, which have four bytes each
abbrev pub torque_bytes : List ℕ → List ℕ
torque_bytes torques = encoded four_bytes torques

-- and back: the torques that bytes say, four bytes each
unfoldable pub torques_in : List ℕ → List ℕ
torques_in [] = []
torques_in (a ∷ []) = []
torques_in (a ∷ b ∷ []) = []
torques_in (a ∷ b ∷ c ∷ []) = []
torques_in (a ∷ b ∷ c ∷ d ∷ bytes) = number_of (a ∷ b ∷ c ∷ d ∷ []) ∷ torques_in bytes

-- a field: its tag, the length of its body, its body
unfoldable pub field_bytes : ℕ → List ℕ → List ℕ
field_bytes tag body = tag ∷ (two_bytes (length body) ++ body)

-- the fields of sensors, each with its tag
unfoldable pub sensor_bytes : (tags : List ℕ) → List Sensor → List ℕ
sensor_bytes [] sensors = []
sensor_bytes (tag ∷ tags) [] = []
sensor_bytes (tag ∷ tags) (sensor ∷ sensors) = field_bytes tag (number_bytes (sensor_numbers sensor)) ++ sensor_bytes tags sensors

-- from tag 6 on, "measured only"
unfoldable pub measured_bytes : Kind → List ℕ
measured_bytes standard = []
measured_bytes (measured input outputs rows) =
    sensor_bytes (sensor_tags (sensor_count outputs)) (input ∷ outputs)
    ++ field_bytes (rows_tag (sensor_count outputs)) rows.bytes

-- all fields in their order
unfoldable pub layout : Component → List ℕ
layout c =
    field_bytes 1 (kind_number c.kind ∷ [])
    ++ (field_bytes 2 (c.line ∷ [])
    ++ (field_bytes 3 (two_bytes c.ratio)
    ++ (field_bytes 4 (number_bytes c.speeds)
    ++ (field_bytes 5 (number_bytes c.torques)
    ++ measured_bytes c.kind))))
