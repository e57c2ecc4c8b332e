-- Demand 3 is empty for no kind: data of each kind that the build accepts, from its bytes, and data that it refuses. Assumes nothing.
use Prim.Native.Nat.{ℕ}
use mathlib.Core.Path.{◌≡◌, refl, sym}
use mathlib.Core.Bool.{true}
use mathlib.Core.List.{List, [], ◌∷◌}
use native.Mathlib.Omega.{arith}
use borrow.Author.Tests.{ltb-true}
use lib.Dec.{ltb}
use lib.ListN.{length, get_or}
use Rattle.arith.specs.Quotient.{quotient_up}
use Rattle.arith.specs.Root.{root_up}
use Rattle.arith.specs.Fraction.{◌less◌over◌, ◌over◌, whole, ◌⊕◌, ◌⊖◌, ◌⊗◌, larger, round_up}
use Rattle.std.proofs.Common.{Ok}
use Rattle.refusal.specs.Outcome.{accepted, refuse, first_refusal}
use Rattle.grid.specs.Axis.{within, rises, axis_number, axis_numbers, first_step}
use Rattle.grid.specs.Lists.{tabulate, joined}
use Rattle.grid.specs.Every.{every}
use Rattle.grid.specs.Parts.{grid_of}
use Rattle.grid.specs.declared.Grid.{Grid}
use Rattle.grid.proofs.Every.{every_at}
use Rattle.fields.specs.Bytes.{pairs}
use Rattle.fields.specs.Field.{head, field, number, axis}
use Rattle.fields.specs.Sensor.{sensor}
use Rattle.sensor.specs.Sensor.{sensor_number_check, sensor_check}
use Rattle.component.specs.Component.{component, output_tags, rows_tag, axle_fields, axes_fields, sensor_fields, kind_fields, measured_fields}
use Rattle.layout.specs.Rules.{AreBytes}
use Rattle.loss.specs.PartAbove.{part_above, under_zero}
use Rattle.loss.specs.Measured.{grains_up, temperature_on_sensitivity, temperature_on_zero, calibration, parasitic_loads, sensor_uncertainty, sensor_steps, scaled_uncertainty, reading_uncertainty, loss_uncertainty, measured_loss, loss_is_under_zero, allowance, entry_of, readings, row_uncertainty, measured_entry}
use Rattle.rows.specs.Rows.{torque_at, outputs_at, row_at, near_axis, outputs_check, row_check}
use Rattle.map.specs.Build.{entry_of_kind, entry, check_of_kind, check, speed_check, rows_check, speed_entries, entries, map_of, build}
use Rattle.map.specs.Answers.{Builds}
use Rattle.accuracy.specs.Demand.{Accurate}
use Rattle.accuracy.proofs.Demand.{demand3}
use Rattle.worked.specs.Data.{standard_data, measured_data, half_shafts_data, refused_data}
use Rattle.worked.proofs.Reckoned.{hold}

-- what each byte is, computed
are_bytes : (bytes : List ℕ) → every (λ k. ltb (get_or bytes k 0) 256) (length bytes) ≡ true → AreBytes bytes
are_bytes bytes all i h = ltb-true _ _ (every_at (λ k. ltb (get_or bytes k 0) 256) (length bytes) all i h)

-- ---- data whose map has two speeds and two torques, built in four lent entries that were 0
module _ (bytes : List ℕ) (s t u v a b c d : ℕ) where
  abbrev MapIs : Type 0
  MapIs = build bytes 4 ≡ accepted (record { speeds = s ∷ t ∷ []; torques = u ∷ v ∷ []; entries = a ∷ b ∷ c ∷ d ∷ [] })

  abbrev axes : Grid
  axes = grid_of (s ∷ t ∷ []) 2 (u ∷ v ∷ []) 2

  module _ (e : MapIs) where
    is_built : Builds bytes (0 ∷ 0 ∷ 0 ∷ 0 ∷ []) (a ∷ b ∷ c ∷ d ∷ []) (Ok axes)
    is_built = record {
      outcome = sym e;
      written = rw e;
      counts = record { speeds = omega arith; torques = omega arith; speeds_length = refl; torques_length = refl };
    }

    accurate : AreBytes bytes → Accurate bytes axes (a ∷ b ∷ c ∷ d ∷ [])
    accurate are = demand3 bytes (0 ∷ 0 ∷ 0 ∷ 0 ∷ []) (a ∷ b ∷ c ∷ d ∷ []) are axes is_built

-- ---- kind 1
pub standard_accurate : Accurate standard_data (grid_of (100 ∷ 200 ∷ []) 2 (0 ∷ 1000 ∷ []) 2) (13000 ∷ 15041 ∷ 13000 ∷ 15041 ∷ [])
unfolding every
standard_accurate = accurate standard_data 100 200 0 1000 13000 15041 13000 15041 hold.0 (are_bytes standard_data refl)

-- ---- kind 2: 27.00 Nm at 1,000 Nm, and 300.00 Nm at 3,000 Nm; kind 3: 26.00 Nm and 66.00 Nm at 100 rpm, 39.00 Nm and 300.00 Nm at 200 rpm
pub measured_built : MapIs measured_data 100 200 1000 3000 2700 30000 2700 30000 × MapIs half_shafts_data 100 200 1000 3000 2600 6600 3900 30000
unfolding build map_of entries speed_entries tabulate joined rows_check speed_check check check_of_kind entry entry_of_kind component axle_fields axes_fields kind_fields measured_fields output_tags rows_tag sensor_fields head field number axis sensor sensor_number_check sensor_check pairs within rises axis_number axis_numbers first_step first_refusal torque_at outputs_at row_at outputs_check row_check near_axis measured_entry entry_of row_uncertainty readings reading_uncertainty scaled_uncertainty loss_uncertainty sensor_steps sensor_uncertainty grains_up temperature_on_sensitivity temperature_on_zero calibration parasitic_loads measured_loss loss_is_under_zero allowance round_up part_above under_zero larger ◌less◌over◌ ◌over◌ whole ◌⊕◌ ◌⊖◌ ◌⊗◌ quotient_up root_up
measured_built = (refl, refl)

pub measured_accurate : Accurate measured_data (grid_of (100 ∷ 200 ∷ []) 2 (1000 ∷ 3000 ∷ []) 2) (2700 ∷ 30000 ∷ 2700 ∷ 30000 ∷ [])
unfolding every
measured_accurate = accurate measured_data 100 200 1000 3000 2700 30000 2700 30000 measured_built.0 (are_bytes measured_data refl)

pub half_shafts_accurate : Accurate half_shafts_data (grid_of (100 ∷ 200 ∷ []) 2 (1000 ∷ 3000 ∷ []) 2) (2600 ∷ 6600 ∷ 3900 ∷ 30000 ∷ [])
unfolding every
half_shafts_accurate = accurate half_shafts_data 100 200 1000 3000 2600 6600 3900 30000 measured_built.1 (are_bytes half_shafts_data refl)

-- and one whose second row, at place 80, has a loss under zero
pub refused_at_row : build refused_data 4 ≡ refuse 9 80
unfolding build map_of rows_check speed_check check check_of_kind component axle_fields axes_fields kind_fields measured_fields output_tags rows_tag sensor_fields head field number axis sensor sensor_number_check sensor_check pairs within rises axis_number axis_numbers first_step first_refusal torque_at outputs_at row_at outputs_check row_check near_axis measured_entry entry_of row_uncertainty readings reading_uncertainty scaled_uncertainty loss_uncertainty sensor_steps sensor_uncertainty grains_up temperature_on_sensitivity temperature_on_zero calibration parasitic_loads measured_loss loss_is_under_zero allowance round_up part_above under_zero larger ◌less◌over◌ ◌over◌ whole ◌⊕◌ ◌⊖◌ ◌⊗◌ quotient_up root_up
refused_at_row = refl
