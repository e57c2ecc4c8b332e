-- Component data is accepted exactly when no refusal applies: the four statements of specs/Acceptance. Assumes nothing.
use Prim.Native.Nat.{ℕ, ◌+◌, ◌*◌, ◌≤◌, ◌<◌}
use mathlib.Core.Path.{◌≡◌, refl, sym, ap, ◌∙◌}
use mathlib.Core.Bool.{Bool}
use mathlib.Core.List.{List, [], ◌∷◌, ◌++◌, append-nil}
use mathlib.Core.Logic.{inl, inr}
use native.Mathlib.Omega.{arith}
use native.Mathlib.Decide.{dec_le, ℕ_discrete}
use borrow.Author.Tests.{eqb-true, le-leb, lt-leb}
use lib.Dec.{leb}
use lib.ListN.{length, drop, length-append, drop_of_length-le}
use Rattle.refusal.specs.Outcome.{refusal, accepted, refuse, require, ◌>>=◌}
use Rattle.refusal.proofs.Steps.{never, same_value, same_refusal}
use Rattle.fields.specs.Field.{exactly}
use Rattle.component.specs.Component.{Component, Kind, standard, measured, sensor_count, kind_number, Rows, sensor_tags, rows_tag, row_length, kind_fields, component}
use Rattle.sensor.specs.declared.Sensor.{Sensor}
use Rattle.layout.specs.Layout.{layout, measured_bytes}
use Rattle.layout.specs.Rules.{AreBytes, sensors_start, rows_head, MeasuredRules, KindRules, Rules}
use Rattle.layout.specs.Faults.{Stands}
use Rattle.layout.specs.Acceptance.{SensorStands, SensorsStand, AxesStand, SensorsFault, rows_end, Fault, in_sensors, in_rows, after_torques, after_rows, Sound, Complete, Refused, RefusedOnlyThen}
use Rattle.layout.proofs.FieldBytes.{between_bytes}
use Rattle.layout.proofs.OneField.{Decided, wrong, right, body_there, field_decided}
use Rattle.layout.proofs.BodyChecks.{sensor_checked, rows_checked}
use Rattle.layout.proofs.Runs.{tags_count, measured_read, after_axes, fault_refused, axes_decided}
use Rattle.layout.proofs.LaidOut.{axes_laid, after_five, five_fields_lem, sensors_count, sensors_rules, length_measured_bytes, measured_laid, rows_laid, measured_fields_lem, laid_more, length_five}

-- ---- numbers that keep every rule

-- how long their fields are
pub length_standard : (line ratio : ℕ) (speeds torques : List ℕ)
    → length (layout (record { kind = standard; line = line; ratio = ratio; speeds = speeds; torques = torques })) ≡ sensors_start (length speeds) (length torques)
unfolding layout measured_bytes
length_standard line ratio speeds torques = omega (arith, length_five 1 line ratio speeds torques [])

pub length_measured : (line ratio : ℕ) (speeds torques : List ℕ) (input : Sensor) (outputs : List Sensor) (rows : Rows) → MeasuredRules (length speeds) (length torques) input outputs rows
    → length (layout (record { kind = measured input outputs rows; line = line; ratio = ratio; speeds = speeds; torques = torques }))
    ≡ rows_end (sensor_count outputs) (length speeds) (length torques)
unfolding layout
length_measured line ratio speeds torques input outputs rows r =
    let kind = sensor_count outputs in
    omega (
      arith,
      length_five kind line ratio speeds torques (measured_bytes (measured input outputs rows)),
      length_measured_bytes input outputs rows kind refl (omega arith) (omega arith),
      r.long,
    )

-- what is laid out, with more bytes after it: all is read, and then nothing may be left
laid_then : (kind : Kind) (line ratio : ℕ) (speeds torques more : List ℕ)
    → let c : Component = record { kind = kind; line = line; ratio = ratio; speeds = speeds; torques = torques } in
    Rules c → component (layout c ++ more) ≡ (require (leb (length (layout c ++ more)) (length (layout c))) 12 (length (layout c)) >>= λ _. accepted c)
unfolding layout measured_bytes kind_fields
laid_then standard line ratio speeds torques more r =
    let c : Component = record { kind = standard; line = line; ratio = ratio; speeds = speeds; torques = torques } in
    let s = axes_laid (layout c ++ more) more 1 line ratio speeds torques (laid_more 1 line ratio speeds torques [] more) (omega arith) standard r in
    after_axes (layout c ++ more) 1 (length speeds) (length torques) s ∙ rw (length_standard line ratio speeds torques)
laid_then (measured input outputs rows) line ratio speeds torques more r =
    let c : Component = record { kind = measured input outputs rows; line = line; ratio = ratio; speeds = speeds; torques = torques } in
    let kind = sensor_count outputs in
    let bytes = layout c ++ more in
    let m = length speeds in
    let n = length torques in
    let k : MeasuredRules m n input outputs rows = r.kind in
    let low : 2 ≤ kind = omega (arith, k.some_output) in
    let high : kind ≤ 3 = omega (arith, k.most_outputs) in
    let five = laid_more kind line ratio speeds torques (measured_bytes c.kind) more in
    let s = axes_laid bytes (measured_bytes c.kind ++ more) kind line ratio speeds torques five (omega arith) c.kind r in
    let laid = after_five bytes (measured_bytes c.kind ++ more) kind line ratio speeds torques five in
    let start : rows.start ≡ rows_head kind m n + 3 = k.start in
    let stand = measured_laid input outputs rows kind refl low high bytes m n more laid k.sensors in
    let rows_stand = rows_laid input outputs rows kind refl low high bytes m n more laid k.long in
    rw (after_axes bytes kind m n s, measured_read bytes kind m n low high input outputs stand rows.bytes rows_stand, length_measured line ratio speeds torques input outputs rows k, ← start)

-- what is laid out is read as those numbers
pub complete : Complete
complete c r =
    let e = laid_then c.kind c.line c.ratio c.speeds c.torques [] r in
    rw (append-nil (layout c), le-leb (length (layout c)) (length (layout c)) (omega arith)) at e

-- and is refused with 12 where anything follows it
pub refused_with : (c : Component) (more : List ℕ) → Rules c → 0 < length more → component (layout c ++ more) ≡ refuse 12 (length (layout c))
refused_with c more r h =
    let e = laid_then c.kind c.line c.ratio c.speeds c.torques more r in
    let l : length (layout c) < length (layout c ++ more) = omega (arith, length-append (layout c) more) in
    rw (lt-leb _ _ l) at e

-- a fault is refused with its number, place and index
pub refused_only_then : RefusedOnlyThen
refused_only_then bytes t f = fault_refused bytes t f

-- ---- no third case: bytes are wrong, or laid out from numbers that keep every rule
module _ (bytes : List ℕ) where
  -- the rules and the bytes of fields that stand in their places
  module _ (kind m n : ℕ) (s : AxesStand bytes kind m n) (k : Kind) where
    all_rules : KindRules m n k → Rules (record { kind = k; line = s.line; ratio = s.ratio; speeds = s.speeds; torques = s.torques })
    all_rules r = record {
      line = s.axle_stands.line_range;
      ratio = s.axle_stands.ratio_range;
      speeds = s.speeds_stand.rules;
      torques = s.torques_stand.rules;
      step = s.torques_stand.step;
      kind = rw (s.speed_count, s.torque_count) r;
    }

    laid_again : kind_number k ≡ kind → measured_bytes k ≡ drop (sensors_start m n) bytes
        → layout (record { kind = k; line = s.line; ratio = s.ratio; speeds = s.speeds; torques = s.torques }) ≡ bytes
    unfolding layout
    laid_again e d = rw (e, d) (five_fields_lem bytes kind m n s)

  standard_decided : (m n : ℕ) → AxesStand bytes 1 m n → Decided (Fault bytes) (λ (c : Component). Rules c × (layout c ≡ bytes))
  unfolding measured_bytes
  standard_decided m n s = elim (dec_le (length bytes) (sensors_start m n)) [
    | no more ↦ wrong (refusal 12 (sensors_start m n)) (after_torques m n s (omega arith) refl)
    | yes none ↦ right (record { kind = standard; line = s.line; ratio = s.ratio; speeds = s.speeds; torques = s.torques })
        (all_rules 1 m n s standard tt, laid_again 1 m n s standard refl (sym (drop_of_length-le bytes none)))
  ]

  module _ (b : AreBytes bytes) where
    body_bytes : (at tag : ℕ) (allowed : ℕ → Bool) (body : List ℕ) → Stands bytes at tag allowed body → AreBytes body
    body_bytes at tag allowed body s = rw (body_there bytes at tag allowed body s) at (between_bytes bytes (at + 3) (at + 3 + length body) b)

    sensors_decided : (at : ℕ) (tags : List ℕ) → Decided (SensorsFault bytes at tags) (λ (sensors : List Sensor). SensorsStand bytes at tags sensors)
    sensors_decided at [] = right [] tt
    sensors_decided at (tag ∷ tags) = elim (field_decided sensor_checked bytes at tag b) [
      | wrong t f ↦ wrong t (inl f)
      | right s p ↦
          let stands : SensorStands bytes at tag s = record { there = p.0; rules = p.1 } in
          elim (sensors_decided (at + 21) tags) [
            | wrong t f ↦ wrong t (inr (s, stands, f))
            | right sensors q ↦ right (s ∷ sensors) (stands, q)
          ]
    ]

    module _ (kind m n : ℕ) (s : AxesStand bytes kind m n) (low : 2 ≤ kind) where
      -- fields that stand there with nothing after them are laid out from numbers that keep every rule
      measured_right : (sensors : List Sensor) (rows : Rows) → SensorsStand bytes (sensors_start m n) (sensor_tags kind) sensors
          → Stands bytes (rows_head kind m n) (rows_tag kind) (exactly (row_length kind * (m * n))) rows.bytes → rows.start ≡ rows_head kind m n + 3 → length bytes ≤ rows_end kind m n
          → (c : Component) × Rules c × (layout c ≡ bytes)
      measured_right (input ∷ outputs) rows stand r start none =
          let high = s.axle_stands.kind_range.1 in
          let count : sensor_count outputs ≡ kind = omega (arith, tags_count kind low high, sensors_count bytes (sensors_start m n) (sensor_tags kind) (input ∷ outputs) stand) in
          let long = eqb-true (length rows.bytes) (row_length kind * (m * n)) r.fits in
          let rules : MeasuredRules m n input outputs rows = record {
            some_output = omega arith;
            most_outputs = omega arith;
            sensors = sensors_rules bytes (sensors_start m n) (sensor_tags kind) (input ∷ outputs) stand;
            long = rw count long;
            are_bytes = body_bytes (rows_head kind m n) (rows_tag kind) (exactly (row_length kind * (m * n))) rows.bytes r;
            start = rw count start;
          } in (
            record { kind = measured input outputs rows; line = s.line; ratio = s.ratio; speeds = s.speeds; torques = s.torques },
            all_rules kind m n s (measured input outputs rows) rules,
            laid_again kind m n s (measured input outputs rows) count (measured_fields_lem input outputs rows kind count low high bytes m n stand r none),
          )
      measured_right [] rows stand r start none = elim stand [ ]

      measured_decided : Decided (Fault bytes) (λ (c : Component). Rules c × (layout c ≡ bytes))
      measured_decided = elim (sensors_decided (sensors_start m n) (sensor_tags kind)) [
        | wrong t f ↦ wrong t (in_sensors kind m n s low f)
        | right sensors stand ↦ elim (field_decided (rows_checked (exactly (row_length kind * (m * n)))) bytes (rows_head kind m n) (rows_tag kind) b) [
          | wrong t f ↦ wrong t (in_rows kind m n sensors s low stand f)
          | right rows r ↦ elim (dec_le (length bytes) (rows_end kind m n)) [
            | no more ↦ wrong (refusal 12 (rows_end kind m n)) (after_rows kind m n sensors rows.bytes s low stand r.0 (omega arith) refl)
            | yes none ↦ let c = measured_right sensors rows stand r.0 r.1 none in right c.0 (c.1, c.2)
          ]
        ]
      ]

    by_kind : (kind m n : ℕ) → AxesStand bytes kind m n → Dec (kind ≡ 1) → Decided (Fault bytes) (λ (c : Component). Rules c × (layout c ≡ bytes))
    by_kind kind m n s (yes one) = standard_decided m n (rw one at s)
    by_kind kind m n s (no other) = measured_decided kind m n s (omega (arith, s.axle_stands.kind_range))

    pub component_decided : Decided (Fault bytes) (λ (c : Component). Rules c × (layout c ≡ bytes))
    component_decided = elim (axes_decided bytes b) [
      | wrong t f ↦ wrong t f
      | right kind s ↦ by_kind kind s.0 s.1 s.2 (ℕ_discrete kind 1)
    ]

-- what is accepted is no fault, so it is laid out from numbers that keep every rule
pub sound : Sound
sound bytes c b e = elim (component_decided bytes b) [
  | wrong t f ↦ never t c (sym (fault_refused bytes t f) ∙ e)
  | right d r ↦
      let same : d ≡ c = same_value d c (sym (complete d r.0) ∙ ap component r.1 ∙ e) in
      rw same at r
]

-- what is refused is not laid out from such numbers, so it is a fault
pub refused_means : Refused
refused_means bytes t b e = elim (component_decided bytes b) [
  | wrong u f ↦
      let same : u ≡ t = same_refusal u t (sym (fault_refused bytes u f) ∙ e) in
      rw same at f
  | right d r ↦ never t d (sym e ∙ sym (ap component r.1) ∙ complete d r.0)
]
