-- Document 01, "Accuracy over whole numbers", and document 02, C-11: the exact entry, which fractions are at or below it and at or above it, and what an entry keeps to. Assumes nothing.
use Rattle.std.specs.Prelude.{ℕ, List, [], ◌∷◌, ◌⊎◌}
use Rattle.arith.specs.Fraction.{Fraction, ◌over◌, whole, ◌⊕◌, ◌⊖◌, ◌⊗◌, ◌≼◌, ◌≺◌}
use Rattle.sensor.specs.declared.Sensor.{Sensor}
use Rattle.loss.specs.Standard.{line_of, standard_loss}
use Rattle.loss.specs.Measured.{Part, temperature_on_sensitivity, temperature_on_zero, calibration, parasitic_loads, SensorReading, measured_loss, allowance, Row, output, readings}

-- ---- a number by the fractions on its two sides

pub record Cut : Type 1 where
  pub AtOrBelow : Fraction → Type 0
  pub AtOrAbove : Fraction → Type 0

-- what makes it one number: each fraction is on a side, and what is at or below it is at most what is at or above it
pub record IsNumber (cut : Cut) : Type 0 where
  pub side : (q : Fraction) → cut.AtOrBelow q ⊎ cut.AtOrAbove q
  pub ordered : (p q : Fraction) → cut.AtOrBelow p → cut.AtOrAbove q → p ≼ q

-- fractions on its two sides, less than 1 / n apart
pub record Near (cut : Cut) (n : ℕ) : Type 0 where
  pub below : Fraction
  pub above : Fraction
  pub at_or_below : cut.AtOrBelow below
  pub at_or_above : cut.AtOrAbove above
  pub near : above ≺ below ⊕ (1 over n)

-- the limits of an entry against its exact value; the excess is in hundredths of Nm
pub record EntryAccurate (excess : ℕ) (cut : Cut) (e : ℕ) : Type 0 where
  pub never_below : (q : Fraction) → cut.AtOrBelow q → q ≼ whole e
  pub near : (q : Fraction) → cut.AtOrAbove q → whole e ≺ q ⊕ whole excess

-- ---- an exact entry: it has one root, so squares tell on which side of it a fraction is

-- the loss, and added to it what a root has above the allowance, if anything; in hundredths of Nm. The root is given by its square.
pub record Exact : Type 0 where
  pub loss : Fraction
  pub allowance : Fraction
  pub square : Fraction

-- q is at or below it: at most the loss, or q - loss + allowance is at most the root.
-- q is at or above it: at least the loss, and q - loss + allowance, then not negative, is at least the root.
unfoldable pub cut : Exact → Cut
cut x = record {
  AtOrBelow = λ q. let y = q ⊖ x.loss ⊕ x.allowance in (q ≼ x.loss) ⊎ (y ⊗ y ≼ x.square);
  AtOrAbove = λ q. let y = q ⊖ x.loss ⊕ x.allowance in (x.loss ≼ q) × (x.square ≼ y ⊗ y);
}

-- ---- kind 1: the standard loss, not rounded

unfoldable pub exact_standard : (number ratio torque : ℕ) → Exact
exact_standard number ratio torque =
    record { loss = standard_loss (line_of number) ratio torque; allowance = whole 0; square = whole 0 }

-- ---- kinds 2 and 3: no part is rounded

-- a part as it is, in hundredths of Nm
unfoldable pub unrounded : Part → Fraction
unrounded p = (p.numerator over p.denominator) ⊗ (1 over 100)

-- the square of a sensor's uncertainty, not rounded
unfoldable pub sensor_square : Sensor → ℕ → Fraction
sensor_square sensor C =
    let a = unrounded (temperature_on_sensitivity sensor C) in
    let b = unrounded (temperature_on_zero sensor) in
    let g = unrounded (calibration sensor) in
    let h = unrounded (parasitic_loads sensor) in
    (4 over 3) ⊗ (a ⊗ a ⊕ b ⊗ b ⊕ whole 3 ⊗ g ⊗ g ⊕ h ⊗ h)

-- the number under the root: the squares of the sensors, each times that of its factor, added
unfoldable pub root_square : List SensorReading → Fraction
root_square [] = whole 0
root_square (r ∷ rs) =
    (r.factor over 1000) ⊗ (r.factor over 1000) ⊗ sensor_square r.sensor r.torque ⊕ root_square rs

-- the exact entry of a measured row
unfoldable pub exact_measured : Row → Exact
exact_measured row = record {
  loss = measured_loss row.ratio row.input (output row);
  allowance = allowance row.ratio row.input (output row);
  square = root_square (readings row);
}
