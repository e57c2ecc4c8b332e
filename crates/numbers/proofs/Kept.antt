-- Numbers that are handed over pass their tests exactly where they keep every rule of the fields. Assumes nothing.
use Prim.Native.Nat.{ℕ, zero, suc, ◌+◌, ◌-◌, ◌*◌, ◌≤◌, ◌<◌}
use mathlib.Core.Path.{◌≡◌, refl}
use mathlib.Core.List.{List, [], ◌∷◌}
use native.Mathlib.Nat.{mul-le-mul}
use native.Mathlib.Omega.{arith}
use native.Mathlib.Decide.{dec_le, ℕ_discrete}
use borrow.Author.Tests.{le-leb, leb-true, eqb-true, eq-eqb, ne_eqb}
use lib.ListN.{length, take, length-take, get_or-eq_default}
use Rattle.refusal.specs.Outcome.{accepted}
use Rattle.refusal.proofs.Steps.{then_accepted, test_accepted, require_accepted, placed_accepted}
use Rattle.grid.specs.Axis.{◌to◌, within, first_step}
use Rattle.grid.specs.Map.{counted_numbers}
use Rattle.grid.specs.Rules.{InRange, AxisRules, FirstStep}
use Rattle.grid.specs.declared.Range.{Range}
use Rattle.grid.specs.declared.Grid.{Grid}
use Rattle.grid.proofs.AxisLaws.{in_range, within_range, axis_accepted, rules_accepted}
use Rattle.sensor.specs.Sensor.{AllSensorRules, sensors_check}
use Rattle.sensor.specs.declared.Sensor.{Sensor}
use Rattle.sensor.proofs.Sensors.{sensors_right, sensors_accepted}
use Rattle.component.specs.Component.{Rows, sensor_count, kind_number}
use Rattle.component.specs.Answers.{kind_of, outputs_of}
use Rattle.layout.specs.Layout.{torque_bytes}
use Rattle.layout.specs.Rules.{FitFourBytes, rows_head, MeasuredRules, KindRules}
use Rattle.layout.proofs.FieldBytes.{length_torque_bytes}
use Rattle.layout.proofs.LaidBytes.{torque_bytes_are, kind_range}
use Rattle.numbers.specs.Check.{axle_check, axis_check, axes_check, measured_check, numbers_check}
use Rattle.numbers.specs.Says.{says, NumbersRules}
use Rattle.numbers.specs.declared.Numbers.{Numbers}
use Rattle.numbers.proofs.Checks.{count_within, counts_within}

-- ---- tags 1 to 3
record AxleRules (kind line ratio : ℕ) : Type 0 where
  kind_range : InRange (1 to 3) kind
  line_range : InRange (1 to 5) line
  ratio_range : InRange (1000 to 20000) ratio

axle_right : (kind line ratio : ℕ) → axle_check kind line ratio ≡ accepted tt → AxleRules kind line ratio
unfolding axle_check
axle_right kind line ratio e =
    let k = test_accepted (within (1 to 3) kind) 4 0 _ tt e in
    let l = test_accepted (within (1 to 5) line) 4 0 _ tt k.1 in
    record {
      kind_range = in_range (1 to 3) kind k.0;
      line_range = in_range (1 to 5) line l.0;
      ratio_range = in_range (1000 to 20000) ratio (require_accepted _ _ l.1);
    }

axle_accepted : (kind line ratio : ℕ) → AxleRules kind line ratio → axle_check kind line ratio ≡ accepted tt
unfolding axle_check
axle_accepted kind line ratio r =
    rw (within_range (1 to 3) kind r.kind_range, within_range (1 to 5) line r.line_range, within_range (1000 to 20000) ratio r.ratio_range)

-- ---- tags 4 and 5
module _ (most : ℕ) (range : Range) (ns : List ℕ) (count : ℕ) where
  -- there are as many numbers as the count says, and they keep their rules
  record AxisKept : Type 0 where
    whole : length (take count ns) ≡ count
    rules : AxisRules range most (take count ns) (length (take count ns))

  -- past its end a list has 0, which is above no number
  all_there : AxisRules range most (take count ns) count → length (take count ns) ≡ count
  all_there r = elim (dec_le count (length (take count ns))) [
    | yes enough ↦ omega (arith, length-take count ns, enough)
    | no short ↦
        let last : count - 2 + 1 < count = omega (arith, r.at_least) in
        let past : length (take count ns) ≤ count - 2 + 1 = omega (arith, r.at_least) in
        absurd (omega (arith, r.rising (count - 2) last, get_or-eq_default (take count ns) 0 past))
  ]

  axis_right : axis_check most range ns count ≡ accepted tt → AxisKept
  unfolding axis_check
  axis_right e =
      let counted = count_within most range ns count e in
      let right = placed_accepted _ _ tt (test_accepted (within (2 to most) count) 3 0 _ tt e).1 in
      let rules = axis_accepted range most (take count ns) count counted.0 counted.1 right in
      let whole = all_there rules in
      record { whole = whole; rules = rw whole rules }

  axis_kept : AxisKept → axis_check most range ns count ≡ accepted tt
  unfolding axis_check
  axis_kept k =
      let rules = rw k.whole at k.rules in
      rw (within_range (2 to most) count (rules.at_least, rules.at_most), rules_accepted range most (take count ns) count rules)

record AxesKept (grid : Grid) : Type 0 where
  speeds : AxisKept 32 (1 to 3000) grid.speeds.numbers grid.speeds.count
  torques : AxisKept 64 (0 to 50000) grid.torques.numbers grid.torques.count
  step : FirstStep (counted_numbers grid.torques)

axes_right : (grid : Grid) → axes_check grid ≡ accepted tt → AxesKept grid
unfolding axes_check first_step
axes_right grid e =
    let s = then_accepted (axis_check 32 (1 to 3000) grid.speeds.numbers grid.speeds.count) _ tt e in
    let t = then_accepted (axis_check 64 (0 to 50000) grid.torques.numbers grid.torques.count) _ tt s.2 in
    record {
      speeds = axis_right 32 (1 to 3000) _ _ s.1;
      torques = axis_right 64 (0 to 50000) _ _ t.1;
      step = leb-true _ _ (require_accepted _ _ t.2);
    }

axes_accepted : (grid : Grid) → AxesKept grid → axes_check grid ≡ accepted tt
unfolding axes_check first_step
axes_accepted grid k =
    rw (axis_kept 32 (1 to 3000) _ _ k.speeds, axis_kept 64 (0 to 50000) _ _ k.torques, le-leb _ _ k.step)

-- ---- from tag 6 on, for m speeds and n torques
module _ (m n : ℕ) (input output right : Sensor) (torques : List ℕ) where
  measured_rules : (outputs : List Sensor) → 1 ≤ length outputs → length outputs ≤ 2 → AllSensorRules (input ∷ outputs)
      → length torques ≡ sensor_count outputs * (m * n) → FitFourBytes torques
      → MeasuredRules m n input outputs (record { start = rows_head (sensor_count outputs) m n + 3; bytes = torque_bytes torques })
  measured_rules outputs some most sensors count fit = record {
    some_output = some;
    most_outputs = most;
    sensors = sensors;
    long = omega (arith, length_torque_bytes torques, count);
    are_bytes = torque_bytes_are torques fit;
    start = refl;
  }

  -- a measured kind's sensors keep their rules, and there is a torque of each of them at each point
  record MeasuredKept (kind : ℕ) : Type 0 where
    sensors : AllSensorRules (input ∷ outputs_of kind output right)
    count : length torques ≡ kind * (m * n)

  kind_rules : (kind : ℕ) → InRange (1 to 3) kind → (2 ≤ kind → MeasuredKept kind) → FitFourBytes torques
      → KindRules m n (kind_of kind input (outputs_of kind output right) (record { start = rows_head kind m n + 3; bytes = torque_bytes torques }))
  kind_rules zero h k fit = absurd (omega arith)
  kind_rules (suc zero) h k fit = tt
  kind_rules (suc (suc zero)) h k fit =
      let kept = k (omega arith) in
      measured_rules (output ∷ []) (omega arith) (omega arith) kept.sensors kept.count fit
  kind_rules (suc (suc (suc zero))) h k fit =
      let kept = k (omega arith) in
      measured_rules (output ∷ right ∷ []) (omega arith) (omega arith) kept.sensors kept.count fit
  kind_rules (suc (suc (suc (suc kind)))) h k fit = absurd (omega arith)

  measured_kept : (outputs : List Sensor) (start : ℕ) → MeasuredRules m n input outputs (record { start = start; bytes = torque_bytes torques }) → length torques ≡ sensor_count outputs * (m * n)
  measured_kept outputs start r = omega (arith, length_torque_bytes torques, r.long)

  kind_kept : (kind : ℕ) → InRange (1 to 3) kind → 2 ≤ kind
      → KindRules m n (kind_of kind input (outputs_of kind output right) (record { start = rows_head kind m n + 3; bytes = torque_bytes torques }))
      → MeasuredKept kind
  kind_kept zero h l r = absurd (omega arith)
  kind_kept (suc zero) h l r = absurd (omega arith)
  kind_kept (suc (suc zero)) h l r = record { sensors = r.sensors; count = measured_kept (output ∷ []) _ r }
  kind_kept (suc (suc (suc zero))) h l r = record { sensors = r.sensors; count = measured_kept (output ∷ right ∷ []) _ r }
  kind_kept (suc (suc (suc (suc kind)))) h l r = absurd (omega arith)

-- the kind that is said has the number that was handed over
kind_number_lem : (input output right : Sensor) (rows : Rows) (kind : ℕ) → InRange (1 to 3) kind → kind_number (kind_of kind input (outputs_of kind output right) rows) ≡ kind
kind_number_lem input output right rows zero h = absurd (omega arith)
kind_number_lem input output right rows (suc zero) h = refl
kind_number_lem input output right rows (suc (suc zero)) h = refl
kind_number_lem input output right rows (suc (suc (suc zero))) h = refl
kind_number_lem input output right rows (suc (suc (suc (suc kind)))) h = absurd (omega arith)

-- ---- all of them
module _ (g : Numbers) (torques : List ℕ) where
  pub kind_said : InRange (1 to 3) g.kind → kind_number (says g torques).kind ≡ g.kind
  kind_said h = kind_number_lem g.input g.output g.right _ g.kind h

  said_range : NumbersRules g torques → InRange (1 to 3) g.kind
  said_range r = rw r.counts.kind at (kind_range _ _ (says g torques).kind r.rules.kind)

  measured_right : 2 ≤ g.kind → (m n : ℕ) → m ≡ g.grid.speeds.count → n ≡ g.grid.torques.count → measured_check g (length torques) ≡ accepted tt
      → MeasuredKept m n g.input g.output g.right torques g.kind
  unfolding measured_check
  measured_right h m n em en e =
      let s = then_accepted (sensors_check (g.input ∷ outputs_of g.kind g.output g.right)) _ tt (rw (ne_eqb g.kind 1 (omega arith)) at e) in
      record {
        sensors = sensors_right _ s.1;
        count = rw (em, en) (eqb-true (length torques) _ (require_accepted _ _ s.2));
      }

  pub numbers_right : FitFourBytes torques → numbers_check g (length torques) ≡ accepted tt → NumbersRules g torques
  unfolding numbers_check
  numbers_right fit e =
      let a = then_accepted (axle_check g.kind g.line g.ratio) _ tt e in
      let b = then_accepted (axes_check g.grid) _ tt a.2 in
      let axle = axle_right g.kind g.line g.ratio a.1 in
      let axes = axes_right g.grid b.1 in
      record {
        counts = record { kind = kind_said axle.kind_range; speeds = axes.speeds.whole; torques = axes.torques.whole };
        rules = record {
          line = axle.line_range;
          ratio = axle.ratio_range;
          speeds = axes.speeds.rules;
          torques = axes.torques.rules;
          step = axes.step;
          kind = kind_rules _ _ g.input g.output g.right torques g.kind axle.kind_range (λ h. measured_right h _ _ axes.speeds.whole axes.torques.whole b.2) fit;
        };
      }

  measured_accepted : Dec (g.kind ≡ 1) → NumbersRules g torques → measured_check g (length torques) ≡ accepted tt
  unfolding measured_check
  measured_accepted (yes one) r = rw (eq-eqb g.kind 1 one)
  measured_accepted (no other) r =
      let range = said_range r in
      let kept = kind_kept _ _ g.input g.output g.right torques g.kind range (omega (arith, range)) r.rules.kind in
      let count : length torques ≡ g.kind * (g.grid.speeds.count * g.grid.torques.count) = rw (← r.counts.speeds, ← r.counts.torques) kept.count in
      rw (ne_eqb g.kind 1 other, sensors_accepted _ kept.sensors, eq-eqb _ _ count)

  pub numbers_accepted : NumbersRules g torques → numbers_check g (length torques) ≡ accepted tt
  unfolding numbers_check
  numbers_accepted r =
      let axle : AxleRules g.kind g.line g.ratio = record { kind_range = said_range r; line_range = r.rules.line; ratio_range = r.rules.ratio } in
      let axes : AxesKept g.grid = record {
        speeds = record { whole = r.counts.speeds; rules = r.rules.speeds };
        torques = record { whole = r.counts.torques; rules = r.rules.torques };
        step = r.rules.step;
      } in
      rw (axle_accepted g.kind g.line g.ratio axle, axes_accepted g.grid axes, measured_accepted (ℕ_discrete g.kind 1) r)

  -- ---- how large numbers are that passed their tests
  pub record Sizes : Type 0 where
    pub kind : InRange (1 to 3) g.kind
    pub line : InRange (1 to 5) g.line
    pub speed_count : g.grid.speeds.count ≤ 32
    pub torque_count : g.grid.torques.count ≤ 64
    pub rows : 2 ≤ g.kind → length torques ≤ 6144

  pub sizes : numbers_check g (length torques) ≡ accepted tt → Sizes
  unfolding numbers_check
  sizes e =
      let a = then_accepted (axle_check g.kind g.line g.ratio) _ tt e in
      let b = then_accepted (axes_check g.grid) _ tt a.2 in
      let axle = axle_right g.kind g.line g.ratio a.1 in
      let counts = counts_within g.grid b.1 in
      record {
        kind = axle.kind_range;
        line = axle.line_range;
        speed_count = counts.0;
        torque_count = counts.1;
        rows = λ h. omega (arith, (measured_right h _ _ refl refl b.2).count, mul-le-mul axle.kind_range.1 (mul-le-mul counts.0 counts.1));
      }
