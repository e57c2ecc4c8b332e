-- The rows of component data are in range: what the accuracy of an entry rests on. Assumes nothing.
use Prim.Native.Nat.{ℕ, ◌+◌}
use mathlib.Core.Path.{◌≡◌}
use mathlib.Core.Bool.{false}
use mathlib.Core.List.{List, [], ◌∷◌}
use native.Mathlib.Omega.{arith}
use lib.ListN.{length}
use Rattle.sensor.specs.Sensor.{AllSensorRules}
use Rattle.sensor.specs.declared.Sensor.{Sensor}
use Rattle.component.specs.Component.{Component, Rows}
use Rattle.layout.specs.Rules.{MeasuredRules, Rules}
use Rattle.loss.specs.Measured.{output, loss_is_under_zero, AllInRange, RowInRange}
use Rattle.rows.specs.Rows.{outputs_at, row_at}
use Rattle.rows.proofs.RowSensors.{outputs_count}
use Rattle.map.specs.Build.{point_start, point_row}

-- each output sensor of a row keeps its rules
outputs_in_range : (sensors : List Sensor) (bytes : List ℕ) (at : ℕ) → AllSensorRules sensors → AllInRange (outputs_at sensors bytes at)
unfolding outputs_at
outputs_in_range [] bytes at r = tt
outputs_in_range (sensor ∷ sensors) bytes at r = (r.0, outputs_in_range sensors bytes (at + 4) r.1)

-- a row whose loss is not under zero, of data whose fields keep their rules
pub row_in_range : (c : Component) (i j : ℕ) (input : Sensor) (outputs : List Sensor) (rows : Rows) → Rules c → MeasuredRules (length c.speeds) (length c.torques) input outputs rows
    → loss_is_under_zero (point_row c i j input outputs rows).ratio (point_row c i j input outputs rows).input (output (point_row c i j input outputs rows)) ≡ false
    → RowInRange (point_row c i j input outputs rows)
unfolding row_at
row_in_range c i j input outputs rows r k loss = record {
  ratio = r.ratio.1;
  sensor = k.sensors.0;
  outputs = outputs_in_range outputs rows.bytes _ k.sensors.1;
  few = omega (arith, outputs_count outputs rows.bytes (point_start c i j outputs + 4), k.most_outputs);
  loss = loss;
}
