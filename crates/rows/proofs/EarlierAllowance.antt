-- Document 02, C-13, for the keeper of records: a row's entry by the allowance before it, beside its entry of today. Assumes nothing.
use Prim.Native.Nat.{ℕ, ◌+◌, ◌*◌, ◌-◌, ◌≤◌, ◌<◌, max}
use mathlib.Core.Path.{◌≡◌, refl}
use mathlib.Core.List.{List, [], ◌∷◌, map}
use mathlib.Core.Logic.{◌⊎◌, inl, inr, ⊎_elim}
use native.Mathlib.Omega.{arith}
use native.Mathlib.Decide.{dec_le}
use lib.ListN.{length}
use Rattle.arith.specs.Quotient.{quotient_up, quotient_up_law, quotient_up_least}
use Rattle.arith.specs.Fraction.{Fraction, ◌over◌, whole, ◌⊕◌, ◌⊗◌, larger, round_up}
use Rattle.arith.proofs.Fractions.{is_whole, is_also}
use Rattle.sensor.specs.Sensor.{SensorRules}
use Rattle.sensor.specs.declared.Sensor.{Sensor}
use Rattle.loss.specs.PartAbove.{part_above}
use Rattle.loss.specs.Measured.{reading_uncertainty, sensor_steps, measured_loss, allowance, from_grains, entry_of, Output, Row, output, output_reading, readings, row_uncertainty, measured_entry, AllInRange, RowInRange}
use Rattle.loss.proofs.Parts.{steps_at_most, scaled_at_most, scaled_by_one}
use Rattle.loss.proofs.Rows.{OutputsSmall, root_fits}
use Rattle.loss.proofs.Values.{twentieth_or_is, allowance_is, added_is, entry_is}
use Rattle.rows.specs.Acceptance.{OutputsWithin}

-- the allowance before C-13: 5 % of the measured loss or 1 Nm at the wheel, whichever is more
unfoldable pub earlier_allowance : (ratio input output : ℕ) → Fraction
earlier_allowance ratio input output = larger ((5 over 100) ⊗ measured_loss ratio input output) (whole 100)

-- a row's entry by an allowance
unfoldable pub entry_by : ((ratio input output : ℕ) → Fraction) → Row → ℕ
entry_by allowed row =
    round_up (measured_loss row.ratio row.input (output row) ⊕ part_above (from_grains (row_uncertainty row)) (allowed row.ratio row.input (output row)))

-- by the allowance of today it is the entry
pub entry_by_today : (row : Row) → entry_by allowance row ≡ measured_entry row
unfolding entry_by measured_entry entry_of
entry_by_today row = refl

unfoldable pub earlier_entry : Row → ℕ
earlier_entry row = entry_by earlier_allowance row

-- a row that passes 7 and 9, its other numbers being in their ranges. Whether it passes 8 makes no difference.
pub record Passes (row : Row) : Type 0 where
  pub in_range : RowInRange row
  pub least_ratio : 1000 ≤ row.ratio
  pub input : row.input ≤ 100 * row.sensor.nominal
  pub outputs : OutputsWithin row.outputs

-- today's entry is at most the earlier one, and one is refused by 10 exactly when the other is
pub record EntriesAlike (row : Row) : Type 0 where
  pub not_raised : measured_entry row ≤ earlier_entry row
  pub refused_before : 10000000 < measured_entry row → 10000000 < earlier_entry row
  pub refused_today : 10000000 < earlier_entry row → 10000000 < measured_entry row

-- ---- the largest uncertainty of a row that passes 7

torque_at_most : {sensor : Sensor} {torque : ℕ} → SensorRules sensor → torque ≤ 100 * sensor.nominal → torque ≤ 5000000
torque_at_most r h = omega (arith, h, r.nominal.1)

outputs_small : (os : List Output) → AllInRange os → OutputsWithin os → OutputsSmall (map reading_uncertainty (map output_reading os))
unfolding reading_uncertainty
outputs_small [] r h = tt
outputs_small (o ∷ os) r h =
    (rw (scaled_by_one (sensor_steps o.sensor o.torque).uncertainty) (steps_at_most r.0 (torque_at_most r.0 h.0)), outputs_small os r.1 h.1)

outputs_counted : (os : List Output) → length (map reading_uncertainty (map output_reading os)) ≡ length os
outputs_counted [] = refl
outputs_counted (o ∷ os) = rw (outputs_counted os)

module _ (row : Row) (p : Passes row) where
  uncertainty_at_most : row_uncertainty row ≤ 903000000
  unfolding row_uncertainty readings reading_uncertainty
  uncertainty_at_most =
      let r = p.in_range in
      root_fits 20 (map reading_uncertainty (map output_reading row.outputs))
      (scaled_at_most 20 r.ratio (steps_at_most r.sensor (torque_at_most r.sensor p.input)))
      (outputs_small row.outputs r.outputs p.outputs)
      (rw (outputs_counted row.outputs) r.few)
      (omega arith)

  -- ---- both entries as quotients, 20,000 to a hundredth of Nm

  -- 5 % of the loss
  abbrev twentieth : ℕ
  twentieth = row.input * row.ratio - 1000 * output row

  -- the loss, and what the uncertainty has above 5 % of it or another number
  abbrev sum_above : ℕ → ℕ
  sum_above least = 20 * (row.input * row.ratio) + (200 * row_uncertainty row - max twentieth least) - 20000 * output row

  today_is : measured_entry row ≡ quotient_up (sum_above (2000 * row.ratio)) 20000
  unfolding measured_entry
  today_is = entry_is row.ratio row.input (output row) (row_uncertainty row) _ (allowance_is row.ratio row.input (output row))

  earlier_is : earlier_entry row ≡ quotient_up (sum_above 2000000) 20000
  unfolding earlier_entry entry_by earlier_allowance
  earlier_is =
      added_is row.ratio row.input (output row) (row_uncertainty row) _
      (twentieth_or_is row.ratio row.input (output row) (is_also 2000000 0 20000 (omega arith) (omega arith) (is_whole 100)))

  at_most : (n k : ℕ) → n ≤ k * 20000 → quotient_up n 20000 ≤ k
  at_most n k h = quotient_up_least (quotient_up_law n 20000 (omega arith)) k h

  -- ---- one beside the other

  not_raised : measured_entry row ≤ earlier_entry row
  not_raised =
      let u = quotient_up_law (sum_above 2000000) 20000 (omega arith) in
      rw (today_is, earlier_is) (at_most _ _ (omega (arith, p.least_ratio, u.not_below)))

  -- Where 5 % of the loss is the more today, it was so before. Else the loss is under 400 Nm, and no uncertainty brings that above the largest entry.
  same_or_small : (measured_entry row ≡ earlier_entry row) ⊎ (earlier_entry row ≤ 10000000)
  same_or_small = go (dec_le (2000 * row.ratio) twentieth)
    where
      go : Dec (2000 * row.ratio ≤ twentieth) → (measured_entry row ≡ earlier_entry row) ⊎ (earlier_entry row ≤ 10000000)
      go (yes h) =
          let e : max twentieth (2000 * row.ratio) ≡ max twentieth 2000000 = omega (arith, h, p.least_ratio) in
          inl (rw (today_is, earlier_is, e) refl)
      go (no h) = inr (rw earlier_is (at_most _ _ (omega (arith, h, p.in_range.ratio, uncertainty_at_most))))

  pub entries_alike : EntriesAlike row
  entries_alike = record {
    not_raised = not_raised;
    refused_before = λ h. omega (arith, h, not_raised);
    refused_today = λ h. ⊎_elim (λ e. rw e h) (λ l. absurd (omega (arith, h, l))) same_or_small;
  }
