-- Document 01, "Refusals", 7 to 10, and document 02, C-11: the rules that a row keeps, and the first condition that it meets, said of its numbers.
use Rattle.std.specs.Prelude.{ℕ, ◌+◌, ◌*◌, ◌≤◌, ◌<◌, ◌≡◌, false, true, List, [], ◌∷◌, ◌⊎◌}
use Rattle.refusal.specs.Outcome.{refusal, Told}
use Rattle.loss.specs.Measured.{Output, Row, output, loss_is_under_zero, measured_entry}

-- no output's torque is above its sensor's nominal torque
abbrev pub OutputsWithin : List Output → Type 0
OutputsWithin [] = Unit {0}
OutputsWithin (o ∷ os) = (o.torque ≤ 100 * o.sensor.nominal) × OutputsWithin os

-- 7: the first output whose torque is above its own; the first output's torque is at a place, each next one four bytes on
abbrev pub OutputsFault : List Output → (place : ℕ) → Told → Type 0
OutputsFault [] place told = ⊥
OutputsFault (o ∷ os) place told =
    ((100 * o.sensor.nominal < o.torque) × (told ≡ refusal 7 place))
    ⊎ ((o.torque ≤ 100 * o.sensor.nominal) × OutputsFault os (place + 4) told)

-- the rules that a row keeps: none of 7 to 10 applies
pub record RowRules (torque : ℕ) (row : Row) : Type 0 where
  pub input : row.input ≤ 100 * row.sensor.nominal
  pub outputs : OutputsWithin row.outputs
  pub not_over : output row ≤ 100 * torque + 500
  pub not_under : 100 * torque ≤ output row + 500
  pub loss : loss_is_under_zero row.ratio row.input (output row) ≡ false
  pub small : measured_entry row ≤ 10000000

-- the first condition that a row meets; its first byte is at a place
pub data RowFault (torque : ℕ) (row : Row) (place : ℕ) (told : Told) : Type 0 where
  -- 7: the input torque is above its sensor's nominal torque
  input_above : 100 * row.sensor.nominal < row.input → told ≡ refusal 7 place → RowFault torque row place told
  -- 7: an output torque is above its own
  output_above : row.input ≤ 100 * row.sensor.nominal → OutputsFault row.outputs (place + 4) told → RowFault torque row place told
  -- 8: the torque of all outputs together is more than 5.00 Nm off its axis torque; told at the first output's torque
  off_axis : row.input ≤ 100 * row.sensor.nominal → OutputsWithin row.outputs
      → (100 * torque + 500 < output row) ⊎ (output row + 500 < 100 * torque) → told ≡ refusal 8 (place + 4) → RowFault torque row place told
  -- 9: the measured loss is under zero
  negative : row.input ≤ 100 * row.sensor.nominal → OutputsWithin row.outputs → output row ≤ 100 * torque + 500 → 100 * torque ≤ output row + 500
      → loss_is_under_zero row.ratio row.input (output row) ≡ true → told ≡ refusal 9 place → RowFault torque row place told
  -- 10: the entry is above 10,000,000 hundredths of Nm
  too_large : row.input ≤ 100 * row.sensor.nominal → OutputsWithin row.outputs → output row ≤ 100 * torque + 500 → 100 * torque ≤ output row + 500
      → loss_is_under_zero row.ratio row.input (output row) ≡ false → 10000000 < measured_entry row → told ≡ refusal 10 place → RowFault torque row place told
