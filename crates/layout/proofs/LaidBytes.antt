-- Numbers that keep their rules are laid out as bytes. Assumes nothing.
use Rattle.std.specs.Prelude.{if◌then◌else◌}
use Prim.Native.Nat.{ℕ, zero, suc, ◌≤◌, ◌<◌}
use mathlib.Core.Bool.{Bool, true, false}
use mathlib.Core.List.{List, [], ◌∷◌, ◌++◌}
use native.Mathlib.Nat.{mul-le-mul}
use native.Mathlib.Omega.{arith}
use lib.Dec.{eqb}
use lib.ListN.{length, get_or}
use Rattle.grid.specs.Axis.{◌to◌}
use Rattle.grid.specs.Rules.{InRange, AxisRules}
use Rattle.component.specs.Component.{Component, Kind, standard, measured, sensor_count, kind_number, output_tags, sensor_tags, rows_tag}
use Rattle.sensor.specs.Sensor.{SensorRules, AllSensorRules, sensor_numbers}
use Rattle.sensor.specs.declared.Sensor.{Sensor}
use Rattle.layout.specs.Layout.{two_bytes, four_bytes, encoded, number_bytes, torque_bytes, field_bytes, sensor_bytes, measured_bytes, layout}
use Rattle.layout.specs.Rules.{AreBytes, FitFourBytes, AllBelow, KindRules, Rules}
use Rattle.layout.proofs.FieldBytes.{length_number_bytes}

-- ---- bytes one after another, said of each in turn
abbrev EachByte : List ℕ → Type 0
EachByte [] = Unit {0}
EachByte (byte ∷ bytes) = (byte < 256) × EachByte bytes

are_bytes : (bytes : List ℕ) → EachByte bytes → AreBytes bytes
are_bytes [] e i l = absurd (omega arith)
are_bytes (byte ∷ bytes) e zero l = e.0
are_bytes (byte ∷ bytes) e (suc i) l = are_bytes bytes e.1 i (omega arith)

each_byte : (bytes : List ℕ) → AreBytes bytes → EachByte bytes
each_byte [] b = tt
each_byte (byte ∷ bytes) b = (b 0 (omega arith), each_byte bytes (λ i l. b (suc i) (omega arith)))

both : (a b : List ℕ) → EachByte a → EachByte b → EachByte (a ++ b)
both [] b p q = q
both (byte ∷ a) b p q = (p.0, both a b p.1 q)

-- ---- numbers, each as its bytes
encoded_are : (bytes_of : ℕ → List ℕ) (limit : ℕ) → ((n : ℕ) → n < limit → EachByte (bytes_of n)) → (ns : List ℕ) → AllBelow limit ns → EachByte (encoded bytes_of ns)
unfolding encoded
encoded_are bytes_of limit one [] below = tt
encoded_are bytes_of limit one (n ∷ ns) below =
    both (bytes_of n) (encoded bytes_of ns) (one n (below 0 (omega arith))) (encoded_are bytes_of limit one ns (λ i l. below (suc i) (omega arith)))

two_are : (n : ℕ) → n < 65536 → EachByte (two_bytes n)
two_are n h = (omega arith, (omega arith, tt))

numbers_are : (ns : List ℕ) → AllBelow 65536 ns → EachByte (number_bytes ns)
numbers_are ns below = encoded_are two_bytes 65536 two_are ns below

-- torques that fit in four bytes
pub torque_bytes_are : (torques : List ℕ) → FitFourBytes torques → AreBytes (torque_bytes torques)
torque_bytes_are torques fit =
    are_bytes (torque_bytes torques) (encoded_are four_bytes 4294967296 (λ n h. (omega arith, (omega arith, (omega arith, (omega arith, tt))))) torques fit)

-- ---- fields
field_are : (tag : ℕ) (body : List ℕ) → tag < 256 → length body < 65536 → EachByte body → EachByte (field_bytes tag body)
unfolding field_bytes
field_are tag body t l b = (t, both (two_bytes (length body)) body (two_are (length body) l) b)

axis_are : (tag lowest highest most : ℕ) (ns : List ℕ) → tag < 256 → highest < 65536 → most ≤ 64 → AxisRules (lowest to highest) most ns (length ns) → EachByte (field_bytes tag (number_bytes ns))
axis_are tag lowest highest most ns t h m r =
    field_are tag (number_bytes ns) t (omega (arith, length_number_bytes ns, r.at_most)) (numbers_are ns (λ i l. omega (arith, (r.ranges i l).1)))

sensor_are : (tag : ℕ) (s : Sensor) → tag < 256 → SensorRules s → EachByte (field_bytes tag (number_bytes (sensor_numbers s)))
sensor_are tag s t r = field_are tag (number_bytes (sensor_numbers s)) t (omega (arith, length_number_bytes (sensor_numbers s))) (numbers_are (sensor_numbers s) below)
  where
    below : (i : ℕ) → i < length (sensor_numbers s) → get_or (sensor_numbers s) i 0 < 65536
    below zero l = omega (arith, r.nominal)
    below (suc zero) l = omega (arith, r.sensitivity)
    below (suc (suc zero)) l = omega (arith, r.zero)
    below (suc (suc (suc zero))) l = omega (arith, r.calibration)
    below (suc (suc (suc (suc zero)))) l = omega (arith, r.advancement)
    below (suc (suc (suc (suc (suc zero))))) l = omega (arith, r.parasitic)
    below (suc (suc (suc (suc (suc (suc zero)))))) l = omega (arith, r.share)
    below (suc (suc (suc (suc (suc (suc (suc zero))))))) l = omega (arith, r.difference)
    below (suc (suc (suc (suc (suc (suc (suc (suc zero)))))))) l = omega (arith, r.span)
    below (suc (suc (suc (suc (suc (suc (suc (suc (suc i))))))))) l = absurd (omega arith)

sensors_are : (tags : List ℕ) (sensors : List Sensor) → EachByte tags → AllSensorRules sensors → EachByte (sensor_bytes tags sensors)
unfolding sensor_bytes
sensors_are [] sensors t r = tt
sensors_are (tag ∷ tags) [] t r = tt
sensors_are (tag ∷ tags) (sensor ∷ sensors) t r =
    both (field_bytes tag (number_bytes (sensor_numbers sensor))) (sensor_bytes tags sensors) (sensor_are tag sensor t.0 r.0) (sensors_are tags sensors t.1 r.1)

-- the tags of a measured kind
right_tag : (b : Bool) → EachByte (if b then [] else (9 ∷ []))
right_tag true = tt
right_tag false = (omega arith, tt)

tags_are : (kind : ℕ) → EachByte (sensor_tags kind)
unfolding output_tags
tags_are kind = (omega arith, (omega arith, right_tag (eqb kind 2)))

rows_tag_is : (b : Bool) → (if b then 8 else 10) < 256
rows_tag_is true = omega arith
rows_tag_is false = omega arith

kind_are : (speeds torques : ℕ) (kind : Kind) → speeds ≤ 32 → torques ≤ 64 → KindRules speeds torques kind → EachByte (measured_bytes kind)
unfolding measured_bytes rows_tag
kind_are speeds torques standard h k r = tt
kind_are speeds torques (measured input outputs rows) h k r =
    let few = mul-le-mul r.most_outputs (mul-le-mul h k) in
    let points = mul-le-mul h k in
    let short : length rows.bytes < 65536 = omega (arith, r.long, few, points) in
    both (sensor_bytes (sensor_tags (sensor_count outputs)) (input ∷ outputs)) (field_bytes (rows_tag (sensor_count outputs)) rows.bytes)
    (sensors_are (sensor_tags (sensor_count outputs)) (input ∷ outputs) (tags_are (sensor_count outputs)) r.sensors)
    (field_are (rows_tag (sensor_count outputs)) rows.bytes (rows_tag_is (eqb (sensor_count outputs) 2)) short (each_byte rows.bytes r.are_bytes))

-- a kind that keeps its rules is 1 to 3
pub kind_range : (speeds torques : ℕ) (kind : Kind) → KindRules speeds torques kind → InRange (1 to 3) (kind_number kind)
kind_range speeds torques standard r = (omega arith, omega arith)
kind_range speeds torques (measured input outputs rows) r = (omega arith, omega (arith, r.most_outputs))

-- ---- all fields
pub laid_bytes : (c : Component) → Rules c → AreBytes (layout c)
unfolding layout
laid_bytes c r =
    are_bytes (layout c)
    (both (field_bytes 1 (kind_number c.kind ∷ [])) _ (field_are 1 (kind_number c.kind ∷ []) (omega arith) (omega arith) (omega (arith, kind_range _ _ c.kind r.kind), tt))
    (both (field_bytes 2 (c.line ∷ [])) _ (field_are 2 (c.line ∷ []) (omega arith) (omega arith) (omega (arith, r.line), tt))
    (both (field_bytes 3 (two_bytes c.ratio)) _ (field_are 3 (two_bytes c.ratio) (omega arith) (omega arith) (two_are c.ratio (omega (arith, r.ratio))))
    (both (field_bytes 4 (number_bytes c.speeds)) _ (axis_are 4 1 3000 32 c.speeds (omega arith) (omega arith) (omega arith) r.speeds)
    (both (field_bytes 5 (number_bytes c.torques)) _ (axis_are 5 0 50000 64 c.torques (omega arith) (omega arith) (omega arith) r.torques)
    (kind_are (length c.speeds) (length c.torques) c.kind r.speeds.at_most r.torques.at_most r.kind))))))
