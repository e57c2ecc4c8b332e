-- Demand 3: from the bytes that the build accepts to the answers of its map. Assumes nothing.
use Prim.Native.Nat.{ℕ, ◌+◌, ◌*◌, ◌≤◌, ◌<◌}
use mathlib.Core.Path.{◌≡◌, sym, ap, ◌∙◌}
use mathlib.Core.Bool.{true}
use mathlib.Core.List.{List}
use mathlib.Core.Logic.{◌⊎◌, inl, inr}
use native.Mathlib.Omega.{arith}
use native.Mathlib.Decide.{dec_le}
use lib.ListN.{length, get_or}
use Rattle.refusal.specs.Outcome.{accepted}
use Rattle.refusal.proofs.Steps.{placed_accepted}
use Rattle.refusal.proofs.First.{first_all}
use Rattle.grid.specs.Map.{counted_numbers, valid_map}
use Rattle.grid.specs.declared.Grid.{Grid}
use Rattle.component.specs.Component.{Component, Kind, standard, measured}
use Rattle.layout.specs.Rules.{AreBytes, Rules, KindRules}
use Rattle.loss.specs.Exact.{IsNumber, EntryAccurate}
use Rattle.loss.proofs.Accuracy.{standard_is_number, standard_entry_accurate, measured_is_number, measured_entry_accurate, wider, fractions_near}
use Rattle.map.specs.Build.{entry, entry_of_kind, check, check_of_kind, speed_check, rows_check}
use Rattle.std.specs.Prelude.{Ok}
use Rattle.map.specs.Answers.{Builds}
use Rattle.rows.proofs.Acceptance.{row_right}
use Rattle.map.proofs.RowInRange.{row_in_range}
use Rattle.map.proofs.Valid.{from_data, data_rules, entry_there, is_map}
use Rattle.cell.specs.Cell.{Within, Cell, Has, entry_at}
use Rattle.cell.specs.declared.Point.{Point}
use Rattle.lookup.specs.Loss.{cell_of, loss_at, loss_answer}
use Rattle.lookup.proofs.Axes.{RisingAxes, map_axes, cell_has}
use Rattle.lookup.proofs.Queries.{loss_rounds, loss_answered}
use Rattle.accuracy.specs.Claim.{EntriesAccurate, FromFirstTorque, BelowFirstTorque, OneStretch, Held, figures_of}
use Rattle.accuracy.specs.Demand.{exact_of_kind, exact_at, Answered, Accurate, Demand3}
use Rattle.accuracy.proofs.Limits.{limits}

-- ---- an entry

-- how far an entry may be above its exact value, in hundredths of Nm
pub excess_of : Kind → ℕ
excess_of standard = 1
excess_of (measured input outputs rows) = 2

pub excess_most : (kind : Kind) → excess_of kind ≤ 2
unfolding excess_of
excess_most standard = omega arith
excess_most (measured input outputs rows) = omega arith

kind_number_lem : (c : Component) (i j : ℕ) (kind : Kind) → IsNumber (exact_of_kind c i j kind)
unfolding exact_of_kind
kind_number_lem c i j standard = standard_is_number c.line c.ratio (get_or c.torques j 0)
kind_number_lem c i j (measured input outputs rows) = measured_is_number _

kind_accurate : (c : Component) (i j : ℕ) (kind : Kind) → Rules c → KindRules (length c.speeds) (length c.torques) kind → check_of_kind c i j kind ≡ accepted tt
    → EntryAccurate (excess_of kind) (exact_of_kind c i j kind) (entry_of_kind c i j kind)
unfolding exact_of_kind check_of_kind entry_of_kind excess_of
kind_accurate c i j standard r k e = standard_entry_accurate c.line c.ratio (get_or c.torques j 0)
kind_accurate c i j (measured input outputs rows) r k e =
    measured_entry_accurate _ (row_in_range c i j input outputs rows r k (row_right _ _ (placed_accepted _ _ tt e)).loss)

pub exact_number : (c : Component) (i j : ℕ) → IsNumber (exact_at c i j)
unfolding exact_at
exact_number c i j = kind_number_lem c i j c.kind

-- all rows are fine, so each entry is as near as its kind allows
pub entry_near : (c : Component) → Rules c → rows_check c ≡ accepted tt → (i j : ℕ) → i < length c.speeds → j < length c.torques
    → EntryAccurate (excess_of c.kind) (exact_at c i j) (entry c i j)
unfolding exact_at rows_check speed_check check entry
entry_near c r e i j h l =
    kind_accurate c i j c.kind r r.kind
    (first_all _ 0 (length c.torques) (first_all _ 0 (length c.speeds) e i (omega arith) (omega arith)) j (omega arith) (omega arith))

-- ---- the two stretches of torque

one_stretch : (torques : List ℕ) (p : Point) → OneStretch torques p
one_stretch torques p = record { one = go (dec_le (100 * get_or torques 0 0) p.torque); not_both = λ h l. omega arith }
  where
    go : Dec (100 * get_or torques 0 0 ≤ p.torque) → FromFirstTorque torques p ⊎ BelowFirstTorque torques p
    go (yes h) = inl h
    go (no h) = inr (omega arith)

-- ---- the answers over a map that has these axes, and entries that are so near

module _ (c : Component) (grid : Grid) (entries : List ℕ) (valid : valid_map grid entries ≡ true) (s : counted_numbers grid.speeds ≡ c.speeds) (t : counted_numbers grid.torques ≡ c.torques) where
  axes : RisingAxes c.speeds c.torques
  axes = rw (s, t) at (map_axes grid entries valid)

  loss_there : (p : Point) → Within c.speeds c.torques p → loss_answer grid entries p ≡ accepted (loss_at c.speeds c.torques entries p)
  loss_there p w = rw (s, t) at (loss_answered grid entries p valid (rw (s, t) w))

  pub answer_limits : (excess : ℕ) → EntriesAccurate excess c.speeds c.torques (entry_at (length c.torques) entries) (exact_at c)
      → (p : Point) → Within c.speeds c.torques p → (k : Cell) → Has c.speeds c.torques p k
      → Held (figures_of excess) c.speeds c.torques (entry_at (length c.torques) entries) (exact_at c) p k (loss_at c.speeds c.torques entries p)
  answer_limits excess near p w k has =
      limits (entry_at (length c.torques) entries) axes near has (loss_rounds c.speeds c.torques entries axes p w k has)

  answered_at : EntriesAccurate 2 c.speeds c.torques (entry_at (length c.torques) entries) (exact_at c)
      → (p : Point) → Within c.speeds c.torques p → Answered c grid entries p
  answered_at near p w = record {
    loss = loss_at c.speeds c.torques entries p;
    answered = loss_there p w;
    some_cell = (cell_of c.speeds c.torques p, cell_has c.speeds c.torques axes p w);
    one_stretch = one_stretch c.torques p;
    held = answer_limits 2 near p w;
  }

-- ---- from the bytes

module _ (bytes before after : List ℕ) (are_bytes : AreBytes bytes) (grid : Grid) (b : Builds bytes before after (Ok grid)) where
  -- what the data says
  abbrev pub said : Component
  said = (from_data bytes before after are_bytes grid b).says

  -- each entry as near as its kind allows
  pub built_entries_near : EntriesAccurate (excess_of said.kind) said.speeds said.torques (entry_at (length said.torques) after) (exact_at said)
  built_entries_near i j h l =
      let d = from_data bytes before after are_bytes grid b in
      let m : length d.says.speeds ≡ grid.speeds.count = ap length d.speeds ∙ b.counts.speeds_length in
      let n : length d.says.torques ≡ grid.torques.count = ap length d.torques ∙ b.counts.torques_length in
      let there : get_or after (i * length d.says.torques + j) 0 ≡ entry d.says i j =
      rw n (entry_there bytes before after are_bytes grid b i j (omega arith) (omega arith)) in
      rw there (entry_near d.says (data_rules bytes before after are_bytes grid b) d.rows i j h l)

  built_accurate : Accurate bytes grid after
  built_accurate =
      let d = from_data bytes before after are_bytes grid b in
      let near : EntriesAccurate 2 d.says.speeds d.says.torques (entry_at (length d.says.torques) after) (exact_at d.says) =
      λ i j h l. wider (excess_most d.says.kind) (built_entries_near i j h l) in
      record {
        says = d.says;
        read = d.read;
        speeds = sym d.speeds;
        torques = sym d.torques;
        one_number = λ i j h l. exact_number d.says i j;
        fractions_near = λ i j n h l pos. fractions_near (exact_number d.says i j) (near i j h l) n pos;
        entries_near = near;
        answers = answered_at d.says grid after (is_map bytes before after are_bytes grid b) (sym d.speeds) (sym d.torques) near;
      }

  -- "kind 1": an entry is less than 0.01 Nm above its exact value
  pub standard_sharper : said.kind ≡ standard → EntriesAccurate 1 said.speeds said.torques (entry_at (length said.torques) after) (exact_at said)
  unfolding excess_of
  standard_sharper e i j h l = rw e at (built_entries_near i j h l)

pub demand3 : Demand3
demand3 = built_accurate
