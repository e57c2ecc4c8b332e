-- Document 01, "Refusals" and "Code places and language forms": the build of a map. The data is read to its end (1 to 6, 12, 31, 32), then 11 is tested, then the rows.
use Rattle.std.specs.Prelude.{ℕ, ◌+◌, ◌*◌, List, leb, length, get_or}
use Rattle.refusal.specs.Outcome.{Outcome, accepted, ◌>>=◌, require, placed, first_refusal}
use Rattle.component.specs.Component.{Component, Rows, Kind, standard, measured, sensor_count, row_length, component}
use Rattle.loss.specs.Standard.{standard_entry}
use Rattle.grid.specs.Lists.{tabulate, joined}
use Rattle.grid.specs.LossMap.{LossMap}
use Rattle.sensor.specs.declared.Sensor.{Sensor}
use Rattle.loss.specs.Measured.{Row, measured_entry}
use Rattle.rows.specs.Rows.{Bench, row_at, row_check}

-- how many torques there are for each speed, and how many points in all
abbrev pub torque_count : Component → ℕ
torque_count c = length c.torques

abbrev pub points : Component → ℕ
points c = length c.speeds * torque_count c

-- a point's index: the points of one speed stand together
abbrev pub point_index : Component → ℕ → ℕ → ℕ
point_index c speed torque = speed * torque_count c + torque

-- what all rows of measured data share
abbrev pub data_bench : Component → Sensor → List Sensor → Bench
data_bench c input outputs = record { ratio = c.ratio; input = input; outputs = outputs }

-- where the row of a point starts in the bytes of all rows, and the row
abbrev pub point_start : Component → (speed torque : ℕ) → List Sensor → ℕ
point_start c speed torque outputs = row_length (sensor_count outputs) * point_index c speed torque

abbrev pub point_row : Component → (speed torque : ℕ) → Sensor → List Sensor → Rows → Row
point_row c speed torque input outputs rows = row_at (data_bench c input outputs) rows.bytes (point_start c speed torque outputs)

-- the entry of a point, by the indices of its speed and its torque
unfoldable pub entry_of_kind : Component → ℕ → ℕ → Kind → ℕ
entry_of_kind c speed torque standard = standard_entry c.line c.ratio (get_or c.torques torque 0)
entry_of_kind c speed torque (measured input outputs rows) = measured_entry (point_row c speed torque input outputs rows)

unfoldable pub entry : Component → ℕ → ℕ → ℕ
entry c speed torque = entry_of_kind c speed torque c.kind

-- the refusal of a point's row, at its place in the data; standard data has no rows
unfoldable pub check_of_kind : Component → ℕ → ℕ → Kind → Outcome (Unit {0})
check_of_kind c speed torque standard = accepted tt
check_of_kind c speed torque (measured input outputs rows) =
    placed (λ place. rows.start + point_start c speed torque outputs + place)
    (row_check (get_or c.torques torque 0) (point_row c speed torque input outputs rows))

unfoldable pub check : Component → ℕ → ℕ → Outcome (Unit {0})
check c speed torque = check_of_kind c speed torque c.kind

-- "rows in order"
unfoldable pub speed_check : Component → ℕ → Outcome (Unit {0})
speed_check c speed = first_refusal (check c speed) 0 (torque_count c)

unfoldable pub rows_check : Component → Outcome (Unit {0})
rows_check c = first_refusal (speed_check c) 0 (length c.speeds)

-- the entries of one speed, and those of all speeds one after the other
unfoldable pub speed_entries : Component → ℕ → List ℕ
speed_entries c speed = tabulate (entry c speed) (torque_count c)

unfoldable pub entries : Component → List ℕ
entries c = joined (speed_entries c) (length c.speeds)

-- what is built of data that was read, where so many entries are lent: 11 is tested before the rows
unfoldable pub map_of : Component → ℕ → Outcome LossMap
map_of c lent = do
  _ ← require (leb (points c) lent) 11 (points c)
  _ ← rows_check c
  accepted (record { speeds = c.speeds; torques = c.torques; entries = entries c })

-- what is built of component data
unfoldable pub build : List ℕ → ℕ → Outcome LossMap
build bytes lent = do
  c ← component bytes
  map_of c lent
