-- Each body check: which bodies are right, which refusal a wrong one gets, and that there is no third case. Assumes nothing.
use Prim.Native.Nat.{ℕ, zero, suc, ◌+◌, ◌-◌, ◌*◌, ◌≤◌, ◌<◌, zero-le}
use mathlib.Core.Path.{◌≡◌, refl, sym, ap, ◌∙◌}
use mathlib.Core.Bool.{Bool, true, false}
use mathlib.Core.List.{List, [], ◌∷◌}
use mathlib.Core.Logic.{◌⊎◌, inl, inr}
use native.Mathlib.Omega.{arith}
use native.Mathlib.Decide.{dec_le}
use borrow.Author.Tests.{le-leb, lt-leb, ltb-false, le-ltb, eqb-true, ne_eqb}
use lib.ListN.{length, get_or}
use Rattle.refusal.specs.Outcome.{refusal, refusal_with_index, at_place, Told, Outcome, accepted, refused, refuse, require, ◌>>=◌, first_refusal}
use Rattle.refusal.proofs.Steps.{require_accepted, require_refused}
use Rattle.refusal.proofs.First.{first_refused, first_found}
use Rattle.grid.specs.Axis.{◌to◌, within, rises, axis_number, axis_numbers, first_step}
use Rattle.grid.specs.declared.Range.{Range}
use Rattle.grid.proofs.Every.{and_fst, and_snd}
use Rattle.grid.proofs.Numbers.{Wrong, numbers_refused, number_right, number_outside, number_level}
use Rattle.grid.specs.Rules.{InRange, AxisRules, FirstStep}
use Rattle.grid.proofs.AxisLaws.{in_range, within_range, not_in_range, not_within, rises_next, rises_of, axis_accepted, rules_accepted}
use Rattle.fields.specs.Bytes.{number_of, pairs}
use Rattle.fields.specs.Field.{exactly, numbers, number, axis}
use Rattle.fields.specs.Sensor.{sensor}
use Rattle.sensor.specs.Sensor.{sensor_ranges, SensorRules, sensor_number_check, sensor_check, sensor_of, sensor_numbers}
use Rattle.sensor.proofs.Sensors.{sensor_rules, sensor_accepted, nine_numbers}
use Rattle.component.specs.Component.{rows}
use Rattle.sensor.specs.declared.Sensor.{Sensor}
use Rattle.fields.proofs.Heads.{numbers_bounds}
use Rattle.fields.proofs.Pairs.{length_pairs}
use Rattle.layout.specs.Layout.{two_bytes, number_bytes}
use Rattle.layout.specs.Rules.{AreBytes}
use Rattle.layout.specs.Faults.{NumberFault, AxisFault, TorqueFault, numbers_wrong, step_wrong, SensorFault, NoFault}
use Rattle.layout.proofs.FieldBytes.{number_of_one, number_of_two, number_bytes_one, number_bytes_two, pairs_number_bytes, number_bytes_pairs}
use Rattle.layout.proofs.OneField.{Decided, wrong, right, told_as, Checked}

-- ---- a body of one number
module _ (range : Range) (refused_at : (place : ℕ) → Told) where
  module _ (allowed : ℕ → Bool) (bytes_of : ℕ → List ℕ) (said : (n : ℕ) → number_of (bytes_of n) ≡ n)
      (only : (body : List ℕ) → AreBytes body → allowed (length body) ≡ true → body ≡ bytes_of (number_of body)) where
    number_checked : Checked allowed (number range refused_at) bytes_of (λ n place. InRange range n) (NumberFault range refused_at)
    unfolding number
    number_checked =
        record {
          decided = λ body place b fits. go body place b fits (within range (number_of body)) refl;
          accepts = λ n place r. rw (said n, within_range range n r);
          refuses = λ body place t f. told_as _ t _ (rw (not_within range (number_of body) f.outside)) f.told;
        }
      where
        go : (body : List ℕ) (place : ℕ) → AreBytes body → allowed (length body) ≡ true → (b : Bool) → within range (number_of body) ≡ b
            → Decided (NumberFault range refused_at body place) (λ n. (body ≡ bytes_of n) × InRange range n)
        go body place b fits true e = right (number_of body) (only body b fits, in_range range (number_of body) e)
        go body place b fits false e = wrong (refused_at place) (record { outside = not_in_range range (number_of body) e; told = refl })

  pub one_byte_checked : Checked (exactly 1) (number range refused_at) (λ n. n ∷ []) (λ n place. InRange range n) (NumberFault range refused_at)
  one_byte_checked =
      number_checked (exactly 1) (λ n. n ∷ []) number_of_one (λ body b fits. number_bytes_one body (eqb-true (length body) 1 fits))

  pub two_bytes_checked : Checked (exactly 2) (number range refused_at) two_bytes (λ n place. InRange range n) (NumberFault range refused_at)
  two_bytes_checked =
      number_checked (exactly 2) two_bytes number_of_two (λ body b fits. number_bytes_two body b (eqb-true (length body) 2 fits))

-- ---- a body of axis numbers
level : (ns : List ℕ) (i : ℕ) → rises ns i ≡ false → (0 < i) × (get_or ns i 0 ≤ get_or ns (i - 1) 0)
unfolding rises
level ns zero e = let z : ◌≡◌ {A = ℕ} 0 1 = cc in absurd (omega arith)
level ns (suc i) e = (omega arith, ltb-false _ _ (rw (ne_eqb (suc i) 0 (omega arith)) at e))

not_rising : (ns : List ℕ) (i : ℕ) → 0 < i → get_or ns i 0 ≤ get_or ns (i - 1) 0 → rises ns i ≡ false
unfolding rises
not_rising ns i h k = rw (ne_eqb i 0 (omega arith), le-ltb (get_or ns (i - 1) 0) (get_or ns i 0) k)

module _ (range : Range) (body : List ℕ) (place : ℕ) where
  wrong_number : (t : Told) (i : ℕ) → Wrong range (pairs body) i t
      → ((InRange range (get_or (pairs body) i 0) → ⊥) × (at_place (place + 2 * t.place) t ≡ refusal 4 (place + 2 * i)))
      ⊎ (InRange range (get_or (pairs body) i 0) × (0 < i) × (get_or (pairs body) i 0 ≤ get_or (pairs body) (i - 1) 0) × (at_place (place + 2 * t.place) t ≡ refusal 5 (place + 2 * i)))
  wrong_number t i (inl w) = inl (not_in_range range (get_or (pairs body) i 0) w.1, rw w.0)
  wrong_number t i (inr w) =
      let l = level (pairs body) i w.2 in
      inr (in_range range (get_or (pairs body) i 0) w.1, l.0, l.1, rw w.0)

  axis_fault : (t : Told) → axis_numbers range (pairs body) (length (pairs body)) ≡ refused t → AxisFault range body place (at_place (place + 2 * t.place) t)
  axis_fault t e =
      let ns = pairs body in
      let f = numbers_refused range ns (length ns) t e in
      record {
        index = f.index;
        below = f.below;
        ranges = λ i l. in_range range (get_or ns i 0) (and_fst (within range (get_or ns i 0)) (rises ns i) (f.right i l));
        rising = λ i l. rises_next ns i (and_snd (within range (get_or ns (i + 1) 0)) (rises ns (i + 1)) (f.right (i + 1) l));
        wrong = wrong_number t f.index f.wrong;
      }

  -- the number at an index decides, where those before are right
  axis_stops : (number i : ℕ) → i < length (pairs body) → ((k : ℕ) → k < i → InRange range (get_or (pairs body) k 0)) → ((k : ℕ) → k + 1 < i → get_or (pairs body) k 0 < get_or (pairs body) (k + 1) 0)
      → axis_number range (pairs body) i ≡ refuse number i → axis range body place ≡ refuse number (place + 2 * i)
  unfolding axis axis_numbers
  axis_stops number i below ranges rising e =
      let ns = pairs body in
      let stops : first_refusal (axis_number range ns) 0 (length ns) ≡ refuse number i =
      first_refused (axis_number range ns) (length ns) i (refusal number i) below
      (λ k l. number_right range ns k (within_range range (get_or ns k 0) (ranges k l)) (rises_of ns k (λ j h. rising j (omega arith)))) e
      in
      rw stops

  axis_refused : (t : Told) → AxisFault range body place t → axis range body place ≡ refused t
  axis_refused t f = elim f.wrong [
    | inl w ↦ told_as _ t _ (axis_stops 4 f.index f.below f.ranges f.rising (number_outside range (pairs body) f.index (not_within range _ w.0))) w.1
    | inr w ↦ told_as _ t _ (axis_stops 5 f.index f.below f.ranges f.rising (number_level range (pairs body) f.index (within_range range _ w.0) (not_rising (pairs body) f.index w.1 w.2))) w.3
  ]

module _ (range : Range) (most : ℕ) where
  axis_accepts : (ns : List ℕ) (place : ℕ) → AxisRules range most ns (length ns) → axis range (number_bytes ns) place ≡ accepted ns
  unfolding axis
  axis_accepts ns place r = rw (pairs_number_bytes ns, rules_accepted range most ns (length ns) r)

  axis_decided : (body : List ℕ) (place : ℕ) → AreBytes body → numbers 2 most (length body) ≡ true
      → Decided (AxisFault range body place) (λ (ns : List ℕ). (body ≡ number_bytes ns) × AxisRules range most ns (length ns))
  axis_decided body place b fits = go (axis_numbers range (pairs body) (length (pairs body))) refl
    where
      go : (o : Outcome (Unit {0})) → axis_numbers range (pairs body) (length (pairs body)) ≡ o
          → Decided (AxisFault range body place) (λ (ns : List ℕ). (body ≡ number_bytes ns) × AxisRules range most ns (length ns))
      go (accepted u) e =
          let bounds = numbers_bounds 2 most (length body) fits in
          let count = length_pairs body in
          right (pairs body) (sym (number_bytes_pairs body b bounds.0), axis_accepted range most (pairs body) (length (pairs body)) (omega (arith, bounds.1, count)) (omega (arith, bounds.2, count)) e)
      go (refused t) e = wrong (at_place (place + 2 * t.place) t) (axis_fault range body place t e)

  pub axis_checked : Checked (numbers 2 most) (axis range) number_bytes (λ ns place. AxisRules range most ns (length ns)) (AxisFault range)
  axis_checked = record { decided = axis_decided; accepts = axis_accepts; refuses = axis_refused range }

-- ---- the torque axis: its numbers, then the first step
abbrev pub torque_axis : List ℕ → ℕ → Outcome (List ℕ)
torque_axis body place = do
  ns ← axis (0 to 50000) body place
  _ ← require (first_step ns) 6 place
  accepted ns

pub record TorqueRules (ns : List ℕ) : Type 0 where
  pub rules : AxisRules (0 to 50000) 64 ns (length ns)
  pub step : FirstStep ns

torque_decided : (body : List ℕ) (place : ℕ) → AreBytes body → numbers 2 64 (length body) ≡ true
    → Decided (TorqueFault body place) (λ (ns : List ℕ). (body ≡ number_bytes ns) × TorqueRules ns)
torque_decided body place b fits = elim (axis_decided (0 to 50000) 64 body place b fits) [
  | wrong t f ↦ wrong t (numbers_wrong f)
  | right ns r ↦
      let same : pairs body ≡ ns = ap (λ (s : List ℕ). pairs s) r.0 ∙ pairs_number_bytes ns in
      elim (dec_le (get_or ns 0 0) (get_or ns 1 0 - get_or ns 0 0)) [
        | yes step ↦ right ns (r.0, record { rules = r.1; step = step })
        | no over ↦ wrong (refusal 6 place) (step_wrong (rw same r.1) (rw same (omega arith)) refl)
      ]
]

torque_accepts : (ns : List ℕ) (place : ℕ) → TorqueRules ns → torque_axis (number_bytes ns) place ≡ accepted ns
unfolding first_step
torque_accepts ns place r = rw (axis_accepts (0 to 50000) 64 ns place r.rules, le-leb _ _ r.step)

torque_refused : (body : List ℕ) (place : ℕ) (t : Told) → TorqueFault body place t → torque_axis body place ≡ refused t
unfolding axis first_step
torque_refused body place t (numbers_wrong f) = rw (axis_refused (0 to 50000) body place t f)
torque_refused body place t (step_wrong r over e) =
    told_as _ t _ (rw (rules_accepted (0 to 50000) 64 (pairs body) (length (pairs body)) r, lt-leb (get_or (pairs body) 0 0) (get_or (pairs body) 1 0 - get_or (pairs body) 0 0) over)) e

pub torque_checked : Checked (numbers 2 64) torque_axis number_bytes (λ ns place. TorqueRules ns) TorqueFault
torque_checked = record { decided = torque_decided; accepts = torque_accepts; refuses = torque_refused }

-- ---- a sensor
sensor_accepts : (s : Sensor) (place : ℕ) → SensorRules s → sensor (number_bytes (sensor_numbers s)) place ≡ accepted s
unfolding sensor
sensor_accepts s place r = rw (pairs_number_bytes (sensor_numbers s), sensor_accepted s r)

sensor_fault : (body : List ℕ) (place : ℕ) (t : Told) → sensor_check (pairs body) ≡ refused t → SensorFault body place (at_place (place + 2 * t.place) t)
unfolding sensor_check sensor_number_check
sensor_fault body place t e =
    let ns = pairs body in
    let s = first_found (sensor_number_check ns) 0 9 t e in
    let w = require_refused (within (get_or sensor_ranges s.at (0 to 0)) (get_or ns s.at 0)) (refusal_with_index 32 s.at s.at) t s.here in
    record {
      index = s.at;
      below = s.below;
      ranges = λ i l. in_range _ (get_or ns i 0) (require_accepted _ _ (s.passed i zero-le l));
      outside = not_in_range _ (get_or ns s.at 0) w.0;
      told = ap (λ (u : Told). at_place (place + 2 * u.place) u) w.1;
    }

sensor_refused : (body : List ℕ) (place : ℕ) (t : Told) → SensorFault body place t → sensor body place ≡ refused t
unfolding sensor sensor_check sensor_number_check
sensor_refused body place t f =
    let ns = pairs body in
    let i = f.index in
    let stops : first_refusal (sensor_number_check ns) 0 9 ≡ refused (refusal_with_index 32 i i) =
    first_refused (sensor_number_check ns) 9 i (refusal_with_index 32 i i) f.below (λ k l. rw (within_range _ (get_or ns k 0) (f.ranges k l)))
    (rw (not_within _ (get_or ns i 0) f.outside))
    in
    told_as _ t _ (rw stops) f.told

sensor_decided : (body : List ℕ) (place : ℕ) → AreBytes body → exactly 18 (length body) ≡ true
    → Decided (SensorFault body place) (λ (s : Sensor). (body ≡ number_bytes (sensor_numbers s)) × SensorRules s)
sensor_decided body place b fits = go (sensor_check (pairs body)) refl
  where
    go : (o : Outcome (Unit {0})) → sensor_check (pairs body) ≡ o
        → Decided (SensorFault body place) (λ (s : Sensor). (body ≡ number_bytes (sensor_numbers s)) × SensorRules s)
    go (accepted u) e =
        let long = eqb-true (length body) 18 fits in
        let nine = nine_numbers (pairs body) (omega (arith, length_pairs body)) in
        right (sensor_of (pairs body)) (rw nine (sym (number_bytes_pairs body b (omega arith))), sensor_rules (pairs body) e)
    go (refused t) e = wrong (at_place (place + 2 * t.place) t) (sensor_fault body place t e)

pub sensor_checked : Checked (exactly 18) sensor (λ s. number_bytes (sensor_numbers s)) (λ s place. SensorRules s) SensorFault
sensor_checked = record { decided = sensor_decided; accepts = sensor_accepts; refuses = sensor_refused }

-- ---- the rows
pub rows_checked : (allowed : ℕ → Bool) → Checked allowed rows (λ r. r.bytes) (λ r place. r.start ≡ place) NoFault
rows_checked allowed = record {
  decided = λ body place b fits. right (record { start = place; bytes = body }) (refl, refl);
  accepts = λ r place e. rw (← e);
  refuses = λ body place t f. absurd f;
}
