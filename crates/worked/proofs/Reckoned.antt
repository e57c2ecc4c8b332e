-- The marked lines of "Reckoned by hand" hold of the written definitions: one statement over the list of them. Assumes nothing.
use mathlib.Core.Path.{◌≡◌, refl}
use Rattle.arith.specs.Quotient.{quotient_up, quotient_down}
use Rattle.arith.specs.Root.{root_up}
use Rattle.arith.specs.Fraction.{◌less◌over◌, ◌over◌, whole, ◌⊕◌, ◌⊖◌, ◌⊗◌, larger, round_up}
use Rattle.refusal.specs.Outcome.{first_refusal}
use Rattle.grid.specs.Every.{every}
use Rattle.grid.specs.Lists.{tabulate, joined}
use Rattle.grid.specs.Axis.{within, rises, axis_number, axis_numbers, first_step, valid_numbers}
use Rattle.grid.specs.Map.{valid_speeds, valid_torques, valid_grid, valid_entries, valid_map}
use Rattle.fields.specs.Bytes.{pairs}
use Rattle.fields.specs.Field.{head, field, number, axis}
use Rattle.component.specs.Component.{component, axle_fields, axes_fields, kind_fields, measured_fields}
use Rattle.loss.specs.PartAbove.{part_above, under_zero}
use Rattle.loss.specs.Standard.{standard_loss, standard_entry}
use Rattle.loss.specs.Measured.{grains_up, temperature_on_sensitivity, temperature_on_zero, calibration, parasitic_loads, sensor_uncertainty, sensor_steps, scaled_uncertainty, reading_uncertainty, loss_uncertainty, measured_loss, loss_is_under_zero, allowance, entry_of, readings, row_uncertainty, measured_entry}
use Rattle.rows.specs.Rows.{near_axis, outputs_check, row_check}
use Rattle.rows.proofs.EarlierAllowance.{earlier_allowance, entry_by, earlier_entry}
use Rattle.map.specs.Build.{entry, entry_of_kind, check, check_of_kind, speed_check, rows_check, speed_entries, entries, map_of, build}
use Rattle.listing.specs.Listing.{header, line, row, rows, listing, refusal_line}
use Rattle.buffer.specs.Digits.{digit_count_by, digit_count, decimal, hundredths}
use Rattle.report.specs.Report.{report_of, report}
use Rattle.cell.specs.Cell.{share, weight, sum, index, corners}
use Rattle.lookup.specs.Loss.{last_up_to, neighbour, cell_of, loss_at, loss_answer}
use Rattle.cell.specs.Rounding.{ceiling}
use Rattle.lookup.specs.Nearest.{nearest_index, nearest_number, nearest_answer}
use Rattle.worked.specs.Cases.{Hold, measured_row, cases}

pub hold : Hold cases
unfolding component axle_fields axes_fields kind_fields measured_fields head field number axis pairs within rises axis_number axis_numbers first_step first_refusal build map_of rows_check speed_check check check_of_kind entries speed_entries entry entry_of_kind tabulate joined standard_entry standard_loss round_up part_above under_zero sensor_uncertainty sensor_steps grains_up temperature_on_sensitivity temperature_on_zero calibration parasitic_loads scaled_uncertainty reading_uncertainty loss_uncertainty row_uncertainty readings measured_entry entry_of allowance measured_loss loss_is_under_zero near_axis outputs_check row_check report report_of digit_count_by digit_count decimal hundredths header line row rows listing refusal_line loss_answer loss_at cell_of neighbour last_up_to ceiling sum weight share corners index nearest_answer nearest_number nearest_index valid_map valid_entries valid_grid valid_speeds valid_torques valid_numbers every ◌less◌over◌ ◌over◌ whole ◌⊕◌ ◌⊖◌ ◌⊗◌ larger quotient_up quotient_down root_up
hold = (refl, (refl, (refl, (refl, (refl, (refl, (refl, (refl, (refl, (refl, (refl, (refl, (refl, (refl, (refl, (refl, (refl, (refl, (refl, (refl, (refl, tt)))))))))))))))))))))

-- Input 1,100.00, 1,020.00 and 1,000.00 as document 01 has them, by the allowance before C-13.
pub earlier_entries : (earlier_entry (measured_row 110000) ≡ 30000) × (earlier_entry (measured_row 102000) ≡ 6700) × (earlier_entry (measured_row 100000) ≡ 900)
unfolding earlier_entry entry_by earlier_allowance row_uncertainty readings reading_uncertainty scaled_uncertainty loss_uncertainty sensor_steps sensor_uncertainty grains_up temperature_on_sensitivity temperature_on_zero calibration parasitic_loads measured_loss round_up part_above larger ◌less◌over◌ ◌over◌ whole ◌⊕◌ ◌⊖◌ ◌⊗◌ quotient_up root_up
earlier_entries = (refl, refl, refl)
