-- A build is accepted exactly when no refusal applies: 1 to 6, 12, 31 and 32 as in the reading of the data, 11, and 7 to 10 said of each row.
use Rattle.std.specs.Prelude.{ℕ, ◌+◌, ◌≤◌, ◌<◌, ◌≡◌, List, length, get_or}
use Rattle.refusal.specs.Outcome.{refusal, Told, accepted, refused}
use Rattle.grid.specs.LossMap.{LossMap}
use Rattle.component.specs.Component.{Component, Kind, standard, measured}
use Rattle.layout.specs.Layout.{layout}
use Rattle.layout.specs.Rules.{AreBytes, Rules}
use Rattle.layout.specs.Acceptance.{Fault}
use Rattle.rows.specs.Acceptance.{RowRules, RowFault}
use Rattle.map.specs.Build.{points, torque_count, point_start, point_row, entries, build}

-- ---- the row of a point; standard data has none
abbrev pub PointRules : Component → (speed torque : ℕ) → Kind → Type 0
PointRules c speed torque standard = Unit {0}
PointRules c speed torque (measured input outputs rows) = RowRules (get_or c.torques torque 0) (point_row c speed torque input outputs rows)

abbrev pub PointFault : Component → (speed torque : ℕ) → Kind → Told → Type 0
PointFault c speed torque standard told = ⊥
PointFault c speed torque (measured input outputs rows) told =
    RowFault (get_or c.torques torque 0) (point_row c speed torque input outputs rows) (rows.start + point_start c speed torque outputs) told

-- every row keeps its rules
abbrev pub AllRowsRight : Component → Type 0
AllRowsRight c = (i j : ℕ) → i < length c.speeds → j < torque_count c → PointRules c i j c.kind

-- the first row that does not, in the order of the rows: those of earlier speeds, and of earlier torques of its speed, keep their rules
pub record FirstWrongRow (c : Component) (told : Told) : Type 0 where
  pub speed : ℕ
  pub torque : ℕ
  pub speed_in : speed < length c.speeds
  pub torque_in : torque < torque_count c
  pub earlier_speeds : (i j : ℕ) → i < speed → j < torque_count c → PointRules c i j c.kind
  pub earlier_torques : (j : ℕ) → j < torque → PointRules c speed j c.kind
  pub wrong : PointFault c speed torque c.kind told

-- ---- the statements
-- the data's numbers keep every rule, its fields laid out again are its bytes, there is room, and every row keeps its rules
pub record Acceptable (bytes : List ℕ) (lent : ℕ) (c : Component) : Type 0 where
  pub rules : Rules c
  pub laid_out : layout c ≡ bytes
  pub room : points c ≤ lent
  pub rows : AllRowsRight c

abbrev pub map_of_numbers : Component → LossMap
map_of_numbers c = record { speeds = c.speeds; torques = c.torques; entries = entries c }

-- what is accepted is acceptable, and its map is that of its numbers
abbrev pub Sound : Type 0
Sound = (bytes : List ℕ) (lent : ℕ) (m : LossMap) → AreBytes bytes → build bytes lent ≡ accepted m → (c : Component) × Acceptable bytes lent c × (m ≡ map_of_numbers c)

-- what is acceptable is accepted
abbrev pub Complete : Type 0
Complete = (bytes : List ℕ) (lent : ℕ) (c : Component) → Acceptable bytes lent c → build bytes lent ≡ accepted (map_of_numbers c)

-- a refusal: of the reading, 11 with the count needed, or of the first row that does not keep its rules
pub data Reason (bytes : List ℕ) (lent : ℕ) (told : Told) : Type 0 where
  in_data : Fault bytes told → Reason bytes lent told
  too_few : (c : Component) → Rules c → layout c ≡ bytes → lent < points c → told ≡ refusal 11 (points c) → Reason bytes lent told
  in_row : (c : Component) → Rules c → layout c ≡ bytes → points c ≤ lent → FirstWrongRow c told → Reason bytes lent told

abbrev pub Refused : Type 0
Refused = (bytes : List ℕ) (lent : ℕ) (told : Told) → AreBytes bytes → build bytes lent ≡ refused told → Reason bytes lent told

-- and the other way round: where a reason holds, the build answers just that
abbrev pub RefusedOnlyThen : Type 0
RefusedOnlyThen = (bytes : List ℕ) (lent : ℕ) (told : Told) → Reason bytes lent told → build bytes lent ≡ refused told
