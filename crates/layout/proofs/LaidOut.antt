-- Fields laid out one after another stand in their places, and fields that stand in their places are those bytes. Assumes nothing.
use Prim.Native.Nat.{ℕ, ◌+◌, ◌*◌, ◌/◌, ◌%◌, ◌≤◌}
use mathlib.Core.Path.{◌≡◌, refl, ◌∙◌}
use mathlib.Core.Bool.{true}
use mathlib.Core.List.{List, [], ◌∷◌, ◌++◌, append-nil, append_assoc}
use native.Mathlib.Omega.{arith}
use borrow.Author.Tests.{le-leb, eq-eqb, eqb-true}
use lib.ListN.{length, drop, length-append, drop_of_length-le}
use lib.Seq.{drop-append_seam, drop-drop}
use Rattle.grid.specs.Axis.{◌to◌}
use Rattle.grid.specs.Rules.{InRange, AxisRules, FirstStep}
use Rattle.grid.specs.declared.Range.{Range}
use Rattle.fields.specs.Field.{exactly, numbers}
use Rattle.component.specs.Component.{Kind, measured, Rows, sensor_count, sensor_tags, rows_tag, row_length}
use Rattle.sensor.specs.declared.Sensor.{Sensor}
use Rattle.layout.specs.Layout.{two_bytes, number_bytes, field_bytes, sensor_bytes, measured_bytes}
use Rattle.layout.specs.Rules.{sensors_start, rows_head, Rules}
use Rattle.sensor.specs.Sensor.{AllSensorRules, sensor_numbers}
use Rattle.layout.specs.Faults.{Stands}
use Rattle.layout.specs.Acceptance.{AxleStands, SpeedsStand, TorquesStand, SensorsStand, AxesStand, rows_end}
use Rattle.layout.proofs.FieldBytes.{length_number_bytes, length_field_bytes, from_field, field_stands, after_field}
use Rattle.layout.proofs.Runs.{sensor_ends, tags_count}

-- the length of an axis that keeps its rules is allowed
numbers_fit : (range : Range) (most : ℕ) (ns : List ℕ) → AxisRules range most ns (length ns) → numbers 2 most (length (number_bytes ns)) ≡ true
numbers_fit range most ns r =
    let even : 2 * length ns % 2 ≡ 0 = omega arith in
    let half : 2 * length ns / 2 ≡ length ns = omega arith in
    rw (length_number_bytes ns, even, half, le-leb 2 (length ns) r.at_least, le-leb (length ns) most r.at_most)

-- ---- tags 1 to 5
module _ (bytes rest : List ℕ) (kind line ratio : ℕ) (speeds torques : List ℕ)
    (laid : bytes ≡ field_bytes 1 (kind ∷ []) ++ (field_bytes 2 (line ∷ []) ++ (field_bytes 3 (two_bytes ratio) ++ (field_bytes 4 (number_bytes speeds) ++ (field_bytes 5 (number_bytes torques) ++ rest))))) where
  from_line : drop 4 bytes ≡ field_bytes 2 (line ∷ []) ++ (field_bytes 3 (two_bytes ratio) ++ (field_bytes 4 (number_bytes speeds) ++ (field_bytes 5 (number_bytes torques) ++ rest)))
  from_line = after_field bytes 0 1 (exactly 1) (kind ∷ []) _ laid 4 refl

  from_ratio : drop 8 bytes ≡ field_bytes 3 (two_bytes ratio) ++ (field_bytes 4 (number_bytes speeds) ++ (field_bytes 5 (number_bytes torques) ++ rest))
  from_ratio = after_field bytes 4 2 (exactly 1) (line ∷ []) _ from_line 8 refl

  from_speeds : drop 13 bytes ≡ field_bytes 4 (number_bytes speeds) ++ (field_bytes 5 (number_bytes torques) ++ rest)
  from_speeds = after_field bytes 8 3 (exactly 2) (two_bytes ratio) _ from_ratio 13 refl

  from_torques : drop (16 + 2 * length speeds) bytes ≡ field_bytes 5 (number_bytes torques) ++ rest
  from_torques =
      after_field bytes 13 4 (numbers 2 32) (number_bytes speeds) _ from_speeds (16 + 2 * length speeds) (omega (arith, length_number_bytes speeds))

  pub after_five : drop (sensors_start (length speeds) (length torques)) bytes ≡ rest
  after_five =
      after_field bytes (16 + 2 * length speeds) 5 (numbers 2 64) (number_bytes torques) rest from_torques (sensors_start (length speeds) (length torques)) (omega (arith, length_number_bytes torques))

  pub axle_laid : InRange (1 to 3) kind → InRange (1 to 5) line → InRange (1000 to 20000) ratio → AxleStands bytes kind line ratio
  axle_laid k l r = record {
    kind_there = field_stands bytes 0 1 (exactly 1) (kind ∷ []) _ laid refl;
    kind_range = k;
    line_there = field_stands bytes 4 2 (exactly 1) (line ∷ []) _ from_line refl;
    line_range = l;
    ratio_there = field_stands bytes 8 3 (exactly 2) (two_bytes ratio) _ from_ratio refl;
    ratio_range = r;
  }

  pub speeds_laid : AxisRules (1 to 3000) 32 speeds (length speeds) → SpeedsStand bytes speeds
  speeds_laid r = record {
    there = field_stands bytes 13 4 (numbers 2 32) (number_bytes speeds) _ from_speeds (numbers_fit (1 to 3000) 32 speeds r);
    rules = r;
  }

  pub torques_laid : AxisRules (0 to 50000) 64 torques (length torques) → FirstStep torques → TorquesStand bytes (length speeds) torques
  torques_laid r h = record {
    there = field_stands bytes (16 + 2 * length speeds) 5 (numbers 2 64) (number_bytes torques) _ from_torques (numbers_fit (0 to 50000) 64 torques r);
    rules = r;
    step = h;
  }

  -- all five
  abbrev pub axes_laid : InRange (1 to 3) kind → (k : Kind) → Rules (record { kind = k; line = line; ratio = ratio; speeds = speeds; torques = torques })
      → AxesStand bytes kind (length speeds) (length torques)
  axes_laid h k r = record {
    line = line;
    ratio = ratio;
    speeds = speeds;
    torques = torques;
    axle_stands = axle_laid h r.line r.ratio;
    speeds_stand = speeds_laid r.speeds;
    torques_stand = torques_laid r.torques r.step;
    speed_count = refl;
    torque_count = refl;
  }

-- and back
pub five_fields_lem : (bytes : List ℕ) (kind m n : ℕ) (s : AxesStand bytes kind m n)
    → field_bytes 1 (kind ∷ []) ++ (field_bytes 2 (s.line ∷ []) ++ (field_bytes 3 (two_bytes s.ratio) ++ (field_bytes 4 (number_bytes s.speeds) ++ (field_bytes 5 (number_bytes s.torques) ++ drop (sensors_start m n) bytes)))) ≡ bytes
five_fields_lem bytes kind m n s =
    let a = s.axle_stands in
    let sc : 13 + 3 + length (number_bytes s.speeds) ≡ 16 + 2 * m = omega (arith, length_number_bytes s.speeds, s.speed_count) in
    let tc : 16 + 2 * m + 3 + length (number_bytes s.torques) ≡ sensors_start m n = omega (arith, length_number_bytes s.torques, s.torque_count) in
    let e1 = from_field bytes 0 1 (exactly 1) (kind ∷ []) 4 refl a.kind_there in
    let e2 = from_field bytes 4 2 (exactly 1) (s.line ∷ []) 8 refl a.line_there in
    let e3 = from_field bytes 8 3 (exactly 2) (two_bytes s.ratio) 13 refl a.ratio_there in
    let e4 = from_field bytes 13 4 (numbers 2 32) (number_bytes s.speeds) (16 + 2 * m) sc s.speeds_stand.there in
    let e5 = from_field bytes (16 + 2 * m) 5 (numbers 2 64) (number_bytes s.torques) (sensors_start m n) tc s.torques_stand.there in
    rw (← e5, ← e4, ← e3, ← e2, ← e1)

-- ---- sensors, one after another, each with its tag

-- as many as there are tags, each with its rules
pub sensors_count : (bytes : List ℕ) (at : ℕ) (tags : List ℕ) (sensors : List Sensor) → SensorsStand bytes at tags sensors → length sensors ≡ length tags
sensors_count bytes at [] [] h = refl
sensors_count bytes at (tag ∷ tags) (s ∷ sensors) h = omega (arith, sensors_count bytes (at + 21) tags sensors h.1)
sensors_count bytes at [] (s ∷ sensors) h = elim h [ ]
sensors_count bytes at (tag ∷ tags) [] h = elim h [ ]

pub sensors_rules : (bytes : List ℕ) (at : ℕ) (tags : List ℕ) (sensors : List Sensor) → SensorsStand bytes at tags sensors → AllSensorRules sensors
sensors_rules bytes at [] [] h = tt
sensors_rules bytes at (tag ∷ tags) (s ∷ sensors) h = (h.0.rules, sensors_rules bytes (at + 21) tags sensors h.1)
sensors_rules bytes at [] (s ∷ sensors) h = elim h [ ]
sensors_rules bytes at (tag ∷ tags) [] h = elim h [ ]

pub length_sensor_bytes : (tags : List ℕ) (sensors : List Sensor) → length sensors ≡ length tags → length (sensor_bytes tags sensors) ≡ 21 * length tags
unfolding sensor_bytes
length_sensor_bytes [] sensors e = refl
length_sensor_bytes (tag ∷ tags) [] e = absurd (omega arith)
length_sensor_bytes (tag ∷ tags) (s ∷ sensors) e =
    let others = length_sensor_bytes tags sensors (omega arith) in
    simp (length-append, length_field_bytes, length_number_bytes) (omega arith)

module _ (bytes rest : List ℕ) where
  sensors_laid : (at : ℕ) (tags : List ℕ) (sensors : List Sensor) → length sensors ≡ length tags → AllSensorRules sensors
      → drop at bytes ≡ sensor_bytes tags sensors ++ rest → SensorsStand bytes at tags sensors
  unfolding sensor_bytes
  sensors_laid at [] [] e r laid = tt
  sensors_laid at [] (s ∷ sensors) e r laid = omega arith
  sensors_laid at (tag ∷ tags) [] e r laid = omega arith
  sensors_laid at (tag ∷ tags) (s ∷ sensors) e r laid =
      let body = number_bytes (sensor_numbers s) in
      let here : drop at bytes ≡ field_bytes tag body ++ (sensor_bytes tags sensors ++ rest) = laid ∙ append_assoc (field_bytes tag body) (sensor_bytes tags sensors) rest in
      let there = field_stands bytes at tag (exactly 18) body _ here (rw (length_number_bytes (sensor_numbers s))) in
      let after = after_field bytes at tag (exactly 18) body _ here (at + 21) (sensor_ends at s) in
      (record { there = there; rules = r.0 }, sensors_laid (at + 21) tags sensors (omega arith) r.1 after)

  after_sensors : (at : ℕ) (tags : List ℕ) (sensors : List Sensor) (next : ℕ) → length sensors ≡ length tags → at + 21 * length tags ≡ next
      → drop at bytes ≡ sensor_bytes tags sensors ++ rest → drop next bytes ≡ rest
  after_sensors at tags sensors next e f laid =
      let n : next ≡ at + length (sensor_bytes tags sensors) = omega (arith, length_sensor_bytes tags sensors e) in
      rw (n, ← drop-drop, laid) (drop-append_seam (sensor_bytes tags sensors) rest)

-- and back
from_sensors : (bytes : List ℕ) (at : ℕ) (tags : List ℕ) (sensors : List Sensor) (next : ℕ) → at + 21 * length tags ≡ next → SensorsStand bytes at tags sensors
    → drop at bytes ≡ sensor_bytes tags sensors ++ drop next bytes
unfolding sensor_bytes
from_sensors bytes at [] [] next e h = let f : at ≡ next = omega arith in rw f
from_sensors bytes at (tag ∷ tags) (s ∷ sensors) next e h =
    let body = number_bytes (sensor_numbers s) in
    let first = from_field bytes at tag (exactly 18) body (at + 21) (sensor_ends at s) h.0.there in
    let others = from_sensors bytes (at + 21) tags sensors next (omega arith) h.1 in
    first ∙ rw (others, append_assoc)
from_sensors bytes at [] (s ∷ sensors) next e h = elim h [ ]
from_sensors bytes at (tag ∷ tags) [] next e h = elim h [ ]

-- ---- a measured kind
module _ (input : Sensor) (outputs : List Sensor) (rows : Rows) (kind : ℕ) (count : sensor_count outputs ≡ kind) (low : 2 ≤ kind) (high : kind ≤ 3) where
  as_many : length (input ∷ outputs) ≡ length (sensor_tags kind)
  as_many = omega (arith, tags_count kind low high)

  pub length_measured_bytes : length (measured_bytes (measured input outputs rows)) ≡ 21 * kind + 3 + length rows.bytes
  unfolding measured_bytes
  length_measured_bytes =
      rw count
      (omega (arith, as_many, length-append (sensor_bytes (sensor_tags kind) (input ∷ outputs)) (field_bytes (rows_tag kind) rows.bytes), length_sensor_bytes (sensor_tags kind) (input ∷ outputs) as_many, length_field_bytes (rows_tag kind) rows.bytes))

  -- after m speeds and n torques
  module _ (bytes : List ℕ) (m n : ℕ) where
    sensors_end : sensors_start m n + 21 * length (sensor_tags kind) ≡ rows_head kind m n
    sensors_end = omega (arith, as_many)

    module _ (more : List ℕ) (laid : drop (sensors_start m n) bytes ≡ measured_bytes (measured input outputs rows) ++ more) where
      sensors_here : drop (sensors_start m n) bytes ≡ sensor_bytes (sensor_tags kind) (input ∷ outputs) ++ (field_bytes (rows_tag kind) rows.bytes ++ more)
      unfolding measured_bytes
      sensors_here = laid ∙ rw count (append_assoc (sensor_bytes (sensor_tags kind) (input ∷ outputs)) (field_bytes (rows_tag kind) rows.bytes) more)

      pub measured_laid : AllSensorRules (input ∷ outputs) → SensorsStand bytes (sensors_start m n) (sensor_tags kind) (input ∷ outputs)
      measured_laid r = sensors_laid bytes _ (sensors_start m n) (sensor_tags kind) (input ∷ outputs) as_many r sensors_here

      pub rows_laid : length rows.bytes ≡ row_length kind * (m * n) → Stands bytes (rows_head kind m n) (rows_tag kind) (exactly (row_length kind * (m * n))) rows.bytes
      rows_laid long =
          let here = after_sensors bytes _ (sensors_start m n) (sensor_tags kind) (input ∷ outputs) (rows_head kind m n) as_many sensors_end sensors_here in
          field_stands bytes (rows_head kind m n) (rows_tag kind) (exactly (row_length kind * (m * n))) rows.bytes more here (eq-eqb (length rows.bytes) (row_length kind * (m * n)) long)

    -- and back
    pub measured_fields_lem : SensorsStand bytes (sensors_start m n) (sensor_tags kind) (input ∷ outputs)
        → Stands bytes (rows_head kind m n) (rows_tag kind) (exactly (row_length kind * (m * n))) rows.bytes → length bytes ≤ rows_end kind m n
        → measured_bytes (measured input outputs rows) ≡ drop (sensors_start m n) bytes
    unfolding measured_bytes
    measured_fields_lem h r none =
        let long = eqb-true (length rows.bytes) (row_length kind * (m * n)) r.fits in
        let sensors = from_sensors bytes (sensors_start m n) (sensor_tags kind) (input ∷ outputs) (rows_head kind m n) sensors_end h in
        let body = from_field bytes (rows_head kind m n) (rows_tag kind) (exactly (row_length kind * (m * n))) rows.bytes (rows_end kind m n) (omega arith) r in
        let last : drop (rows_head kind m n) bytes ≡ field_bytes (rows_tag kind) rows.bytes = body ∙ rw (drop_of_length-le bytes none) (append-nil (field_bytes (rows_tag kind) rows.bytes)) in
        rw (count, ← last, ← sensors)

-- ---- all fields, and more bytes after them
module _ (kind line ratio : ℕ) (speeds torques rest : List ℕ) where
  abbrev five_fields : List ℕ → List ℕ
  five_fields after =
      field_bytes 1 (kind ∷ []) ++ (field_bytes 2 (line ∷ []) ++ (field_bytes 3 (two_bytes ratio) ++ (field_bytes 4 (number_bytes speeds) ++ (field_bytes 5 (number_bytes torques) ++ after))))

  pub laid_more : (more : List ℕ) → five_fields rest ++ more ≡ five_fields (rest ++ more)
  laid_more more = simp append_assoc

  pub length_five : length (five_fields rest) ≡ sensors_start (length speeds) (length torques) + length rest
  length_five = simp (length-append, length_field_bytes, length_number_bytes) (omega arith)
