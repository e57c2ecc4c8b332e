-- Accepted data reaches no value that a definition has by convention only. Assumes nothing.
use Prim.Native.Nat.{ℕ, ◌≤◌, ◌<◌}
use mathlib.Core.Path.{◌≡◌, refl, sym, ap, ◌∙◌}
use mathlib.Core.List.{List, [], ◌∷◌}
use native.Mathlib.Omega.{arith}
use borrow.Author.Tests.{le-ltb}
use lib.ListN.{length, get_or}
use Rattle.grid.proofs.Map.{map_facts}
use native.Mathlib.Nat.{le_of_eq}
use Rattle.component.specs.Component.{Component, Kind, standard, measured, sensor_count, kind_number, row_length}
use Rattle.sensor.specs.Sensor.{SensorRules, AllSensorRules}
use Rattle.sensor.specs.declared.Sensor.{Sensor}
use Rattle.layout.specs.Layout.{field_bytes, layout}
use Rattle.layout.specs.Rules.{AreBytes, KindRules}
use Rattle.layout.proofs.Theorems.{sound}
use Rattle.rows.proofs.RowSensors.{sensors_kept}
use Rattle.rows.proofs.RowParts.{row_ends}
use Rattle.loss.specs.Measured.{temperature_on_sensitivity, temperature_on_zero, calibration, parasitic_loads}
use Rattle.loss.specs.Standard.{line_of}
use Rattle.loss.proofs.Lines.{line_of_usable}
use Rattle.loss.proofs.OneDenominator.{under_zero_is}
use Rattle.loss.proofs.Values.{standard_numerator, standard_loss_is}
use Rattle.map.specs.Build.{points, point_index, data_bench}
use Rattle.std.specs.Prelude.{Ok}
use Rattle.grid.specs.declared.Grid.{Grid}
use Rattle.map.specs.Answers.{Builds}
use Rattle.grid.proofs.Points.{row_within}
use Rattle.map.specs.Acceptance.{PointRules}
use Rattle.map.proofs.Acceptance.{rows_right}
use Rattle.map.proofs.Valid.{from_data, data_rules, is_map}
use Rattle.accuracy.specs.Conventions.{PartsDefined, AllPartsDefined, KindDefined, PointDefined, Defined}

parts_defined : (s : Sensor) → SensorRules s → PartsDefined s
unfolding temperature_on_sensitivity temperature_on_zero calibration parasitic_loads
parts_defined s r = record {
  sensitivity = λ C. omega (arith, r.span.0);
  zero = omega (arith, r.span.0);
  calibration = omega (arith, r.advancement.0);
  parasitic = omega arith;
}

-- the byte of the kind
kind_byte_is : (c : Component) → get_or (layout c) 3 0 ≡ kind_number c.kind
unfolding layout field_bytes
kind_byte_is c = refl

all_defined : (sensors : List Sensor) → AllSensorRules sensors → AllPartsDefined sensors
all_defined [] r = tt
all_defined (sensor ∷ sensors) r = (parts_defined sensor r.0, all_defined sensors r.1)

kind_defined : (speeds torques : ℕ) (kind : Kind) → KindRules speeds torques kind → KindDefined kind
kind_defined speeds torques standard r = tt
kind_defined speeds torques (measured input outputs rows) r = all_defined (input ∷ outputs) r.sensors

point_within : (c : Component) (i j : ℕ) → i < length c.speeds → j < length c.torques → point_index c i j < points c
point_within c i j h l = omega (arith, row_within i (length c.speeds) (length c.torques) h)

point_defined : (c : Component) (i j : ℕ) (kind : Kind) → i < length c.speeds → j < length c.torques
    → KindRules (length c.speeds) (length c.torques) kind → PointRules c i j kind → PointDefined c i j kind
point_defined c i j standard h l k r =
    under_zero_is (standard_loss_is (line_of c.line) c.ratio (get_or c.torques j 0) (line_of_usable c.line).least) ∙ le-ltb (standard_numerator (line_of c.line) c.ratio (get_or c.torques j 0)) 0 (omega arith)
point_defined c i j (measured input outputs rows) h l k r = record {
  ends = row_ends (row_length (sensor_count outputs)) _ _ _ (point_within c i j h l) (le_of_eq (sym k.long));
  sensors = sensors_kept (data_bench c input outputs) rows.bytes _;
  not_under_zero = r.loss;
}

module _ (bytes before after : List ℕ) (are_bytes : AreBytes bytes) (grid : Grid) (b : Builds bytes before after (Ok grid)) where
  abbrev said : Component
  said = (from_data bytes before after are_bytes grid b).says

  enough : points said ≤ length after
  enough =
      let d = from_data bytes before after are_bytes grid b in
      let m : length d.says.speeds ≡ grid.speeds.count = ap length d.speeds ∙ b.counts.speeds_length in
      let n : length d.says.torques ≡ grid.torques.count = ap length d.torques ∙ b.counts.torques_length in
      rw (m, n) (map_facts grid after (is_map bytes before after are_bytes grid b)).enough

  pub defined : Defined bytes said after
  defined =
      let d = from_data bytes before after are_bytes grid b in
      let rules = data_rules bytes before after are_bytes grid b in
      let usable = line_of_usable said.line in
      record {
        first_line = rules.line.0;
        last_line = rules.line.1;
        efficiency_above_0 = usable.least;
        efficiency_to_100 = usable.most;
        kind_byte = rw (sound bytes said are_bytes d.read).1 at (kind_byte_is said);
        kind = kind_defined (length said.speeds) (length said.torques) said.kind rules.kind;
        point = λ i j h l. point_defined said i j said.kind h l rules.kind (rows_right said d.rows i j h l);
        point_there = point_within said;
        entry_there = λ i j h l. omega (arith, point_within said i j h l, enough);
        widths = λ p k has. record { speed = rules.speeds.rising k.speed has.speed_in; torque = rules.torques.rising k.torque has.torque_in };
      }
