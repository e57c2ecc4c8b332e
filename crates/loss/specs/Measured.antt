-- Document 01, "Measured loss", and document 02, C-11: any number of output sensors, and C-13: the allowance. Ratios and factors are in thousandths, torques and losses in hundredths of Nm, uncertainties in grains. Assumes nothing.
use Rattle.std.specs.Prelude.{ℕ, ◌+◌, ◌*◌, ◌≤◌, Bool, true, false, List, [], ◌∷◌, map, ◌≡◌, length, Option, Some, None}
use Rattle.std.proofs.Common.{le_antisymm, arith}
use Rattle.arith.specs.Quotient.{quotient_up, quotient_up_law, quotient_up_least}
use Rattle.arith.specs.Root.{root_up}
use Rattle.arith.proofs.Roots.{root_up_law}
use Rattle.arith.specs.Fraction.{Fraction, ◌over◌, whole, ◌⊕◌, ◌⊖◌, ◌⊗◌, larger, Same, round_up}
use Rattle.sensor.specs.Sensor.{SensorRules}
use Rattle.sensor.specs.declared.Sensor.{Sensor}
use Rattle.loss.specs.declared.FixedParts.{FixedParts}
use Rattle.loss.specs.declared.Steps.{Steps}
use Rattle.loss.specs.PartAbove.{part_above, under_zero}

-- ---- one sensor: its parts a, b, g and h and its uncertainty U, in grains; C is its torque in hundredths of Nm

infix 60 ◌per◌
-- a part before it is rounded
pub record Part : Type 0 where
  pub numerator : ℕ
  pub denominator : ℕ

abbrev pub ◌per◌ : ℕ → ℕ → Part
n per d = record { numerator = n; denominator = d }

-- a part, rounded up to whole grains
unfoldable pub grains_up : Part → ℕ
grains_up p = quotient_up p.numerator p.denominator

-- part a: temperature on sensitivity
unfoldable pub temperature_on_sensitivity : Sensor → ℕ → Part
temperature_on_sensitivity sensor C =
    let w = sensor.sensitivity in
    let d = sensor.difference in
    let R = sensor.span in
    w * d * C per 100000 * R

-- part b: temperature on zero
unfoldable pub temperature_on_zero : Sensor → Part
temperature_on_zero sensor =
    let z = sensor.zero in
    let d = sensor.difference in
    let N = sensor.nominal in
    let R = sensor.span in
    z * d * N per 1000 * R

-- part g: calibration
unfoldable pub calibration : Sensor → Part
calibration sensor =
    let c = sensor.calibration in
    let N = sensor.nominal in
    let k = sensor.advancement in
    c * N * 10 per k

-- part h: parasitic loads
unfoldable pub parasitic_loads : Sensor → Part
parasitic_loads sensor =
    let s = sensor.parasitic in
    let p = sensor.share in
    let N = sensor.nominal in
    s * p * N per 100000

-- what does not depend on the torque
unfoldable pub fixed_parts : Sensor → FixedParts
fixed_parts sensor = record {
  temperature_on_zero = grains_up (temperature_on_zero sensor);
  calibration = grains_up (calibration sensor);
  parasitic_loads = grains_up (parasitic_loads sensor);
}

-- what 3 × U × U must reach
abbrev pub four_squares : (a b g h : ℕ) → ℕ
four_squares a b g h = 4 * (a * a + b * b + 3 * (g * g) + h * h)

-- U: the root of a third of that, rounded up
unfoldable pub sensor_uncertainty : (a b g h : ℕ) → ℕ
sensor_uncertainty a b g h = root_up (quotient_up (four_squares a b g h) 3)

-- the rule for U as document 01 has it: a law that one number obeys
pub record LeastUncertainty (a b g h U : ℕ) : Type 0 where
  pub enough : four_squares a b g h ≤ 3 * (U * U)
  pub least : (u : ℕ) → four_squares a b g h ≤ 3 * (u * u) → U ≤ u

pub least_uncertainty_unique : {a b g h U W : ℕ} → LeastUncertainty a b g h U → LeastUncertainty a b g h W → U ≡ W
least_uncertainty_unique {U = U} {W = W} p q = le_antisymm (p.least W q.enough) (q.least U p.enough)

-- U is the least whole number that is enough
pub uncertainty_law : (a b g h : ℕ) → LeastUncertainty a b g h (sensor_uncertainty a b g h)
unfolding sensor_uncertainty
uncertainty_law a b g h =
    let u = quotient_up_law (four_squares a b g h) 3 (omega arith) in
    let r = root_up_law (quotient_up (four_squares a b g h) 3) in
    record {
      enough = omega (arith, u.not_below, r.enough);
      least = λ k l. r.least k (quotient_up_least u (k * k) (omega arith));
    }

-- the steps in the annex's order: the four parts, then U
unfoldable pub sensor_steps : Sensor → ℕ → Steps
sensor_steps sensor C =
    let a = grains_up (temperature_on_sensitivity sensor C) in
    let b = grains_up (temperature_on_zero sensor) in
    let g = grains_up (calibration sensor) in
    let h = grains_up (parasitic_loads sensor) in
    record { temperature_on_sensitivity = a; temperature_on_zero = b; calibration = g; parasitic_loads = h; uncertainty = sensor_uncertainty a b g h }

-- ---- the loss uncertainty, over any number of sensors

-- a sensor that is read: the factor that takes its uncertainty to the wheel, and its torque
pub record SensorReading : Type 0 where
  pub factor : ℕ
  pub sensor : Sensor
  pub torque : ℕ

-- U times a factor in thousandths, rounded up to whole grains: V where the factor is the ratio, and W, which is U itself, where it is 1,000
unfoldable pub scaled_uncertainty : (factor U : ℕ) → ℕ
scaled_uncertainty factor U = quotient_up (U * factor) 1000

unfoldable pub reading_uncertainty : SensorReading → ℕ
reading_uncertainty r = scaled_uncertainty r.factor (sensor_steps r.sensor r.torque).uncertainty

abbrev pub sum_of_squares : List ℕ → ℕ
sum_of_squares [] = 0
sum_of_squares (v ∷ vs) = v * v + sum_of_squares vs

-- the loss uncertainty: the root of the sum of the squares, rounded up
unfoldable pub loss_uncertainty : List ℕ → ℕ
loss_uncertainty vs = root_up (sum_of_squares vs)

-- ---- the entry

-- the measured loss, not rounded
unfoldable pub measured_loss : (ratio input output : ℕ) → Fraction
measured_loss ratio input output = whole input ⊗ (ratio over 1000) ⊖ whole output

-- the measured loss is under zero, which is refused by 9
unfoldable pub loss_is_under_zero : (ratio input output : ℕ) → Bool
loss_is_under_zero ratio input output = under_zero (measured_loss ratio input output)

-- the allowance: 5 % of the measured loss or 1 Nm at the input, at the wheel "1 Nm times the ratio", whichever is more
unfoldable pub allowance : (ratio input output : ℕ) → Fraction
allowance ratio input output = larger ((5 over 100) ⊗ measured_loss ratio input output) (whole 100 ⊗ (ratio over 1000))

-- a hundred grains are a hundredth of Nm
abbrev pub from_grains : ℕ → Fraction
from_grains T = T over 100

-- the entry: the measured loss, and what the loss uncertainty, given in grains, has above the allowance, if anything; rounded up at the end alone
unfoldable pub entry_of : (ratio input output uncertainty : ℕ) → ℕ
entry_of ratio input output uncertainty =
    round_up (measured_loss ratio input output ⊕ part_above (from_grains uncertainty) (allowance ratio input output))

-- an output sensor and its torque
pub record Output : Type 0 where
  pub sensor : Sensor
  pub torque : ℕ

-- a measured row. Output torque is the sum of the output sensors' torques.
pub record Row : Type 0 where
  pub ratio : ℕ
  pub sensor : Sensor
  pub input : ℕ
  pub outputs : List Output

abbrev pub sum_of_torques : List Output → ℕ
sum_of_torques [] = 0
sum_of_torques (o ∷ os) = o.torque + sum_of_torques os

abbrev pub output : Row → ℕ
output row = sum_of_torques row.outputs

-- the input sensor with the ratio, each output sensor with 1
abbrev pub output_reading : Output → SensorReading
output_reading o = record { factor = 1000; sensor = o.sensor; torque = o.torque }

unfoldable pub readings : Row → List SensorReading
readings row = record { factor = row.ratio; sensor = row.sensor; torque = row.input } ∷ map output_reading row.outputs

unfoldable pub row_uncertainty : Row → ℕ
row_uncertainty row = loss_uncertainty (map reading_uncertainty (readings row))

unfoldable pub measured_entry : Row → ℕ
measured_entry row = entry_of row.ratio row.input (output row) (row_uncertainty row)

-- What the accuracy of an entry rests on. An accepted row has it, with one output sensor or two.
abbrev pub AllInRange : List Output → Type 0
AllInRange [] = Unit {0}
AllInRange (o ∷ os) = SensorRules o.sensor × AllInRange os

pub record RowInRange (row : Row) : Type 0 where
  pub ratio : row.ratio ≤ 20000
  pub sensor : SensorRules row.sensor
  pub outputs : AllInRange row.outputs
  pub few : length row.outputs ≤ 3
  pub loss : loss_is_under_zero row.ratio row.input (output row) ≡ false

-- ---- what the code answers

-- what the code needs of U, for its square to fit 64 bits beside others
abbrev pub UncertaintyBounded : Steps → Type 0
UncertaintyBounded steps = steps.uncertainty ≤ 43000000

-- U of a right output's sensor, if there is one
abbrev pub right_uncertainty : Option Steps → List ℕ
right_uncertainty None = []
right_uncertainty (Some steps) = steps.uncertainty ∷ []

-- the code's measured loss is in half micronewton metres, 20,000 to a hundredth of Nm
abbrev pub LossSays : (ratio input output : ℕ) → Option ℕ → Type 0
LossSays ratio input output None = loss_is_under_zero ratio input output ≡ true
LossSays ratio input output (Some n) = (loss_is_under_zero ratio input output ≡ false) × Same (n over 20000) (measured_loss ratio input output)
