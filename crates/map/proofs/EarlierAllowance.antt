-- Document 02, C-13, for the keeper of records: the law of a row by both allowances, said of the rows of component data. Assumes nothing.
use Prim.Native.Nat.{ℕ, ◌*◌, ◌≤◌}
use mathlib.Core.Path.{◌≡◌}
use mathlib.Core.Bool.{false}
use mathlib.Core.List.{List}
use lib.ListN.{length}
use Rattle.sensor.specs.declared.Sensor.{Sensor}
use Rattle.component.specs.Component.{Component, Rows}
use Rattle.layout.specs.Rules.{MeasuredRules, Rules}
use Rattle.loss.specs.Measured.{Row, output, loss_is_under_zero}
use Rattle.rows.specs.Rows.{row_at}
use Rattle.rows.specs.Acceptance.{OutputsWithin}
use Rattle.rows.proofs.EarlierAllowance.{EntriesAlike, entries_alike}
use Rattle.map.specs.Build.{point_row}
use Rattle.map.proofs.RowInRange.{row_in_range}

module _ (c : Component) (i j : ℕ) (input : Sensor) (outputs : List Sensor) (rows : Rows) (r : Rules c) (k : MeasuredRules (length c.speeds) (length c.torques) input outputs rows) where
  abbrev row : Row
  row = point_row c i j input outputs rows

  -- each row that passes 7 and 9, of data whose fields keep their rules
  pub data_entries_alike : row.input ≤ 100 * row.sensor.nominal → OutputsWithin row.outputs → loss_is_under_zero row.ratio row.input (output row) ≡ false → EntriesAlike row
  unfolding row_at
  data_entries_alike input_within outputs_within loss =
      entries_alike row (record {
        in_range = row_in_range c i j input outputs rows r k loss;
        least_ratio = r.ratio.0;
        input = input_within;
        outputs = outputs_within;
      })
