-- The fields in their order: what comes of fields that stand in their places, of the first that is wrong, and of bytes after the last. Assumes nothing.
use Prim.Native.Nat.{ℕ, zero, suc, ◌+◌, ◌*◌, ◌≤◌}
use mathlib.Core.Path.{◌≡◌, refl, ap, ◌∙◌, fun_ext}
use mathlib.Core.Bool.{Bool, true, false}
use mathlib.Core.List.{List, [], ◌∷◌}
use mathlib.Core.Logic.{inl, inr}
use native.Mathlib.Omega.{arith}
use borrow.Author.Tests.{lt-leb, eqb-true, ne_eqb}
use lib.Dec.{leb}
use lib.ListN.{length}
use Rattle.refusal.specs.Outcome.{refusal, Told, Outcome, accepted, refused, require, ◌>>=◌}
use Rattle.grid.specs.Axis.{◌to◌, first_step}
use Rattle.grid.specs.Rules.{InRange}
use Rattle.fields.specs.Bytes.{between}
use Rattle.fields.specs.Field.{Head, Field, head, field, exactly, numbers, number, ratio_refusal, axis}
use Rattle.fields.specs.Sensor.{sensor}
use Rattle.sensor.specs.Sensor.{sensor_numbers}
use Rattle.component.specs.Component.{Component, Kind, measured, Run, AxesNumbers, Rows, rows, output_tags, sensor_tags, rows_tag, row_length, axle_fields, axes_fields, sensor_fields, measured_fields, kind_fields, component}
use Rattle.sensor.specs.declared.Sensor.{Sensor}
use Rattle.layout.specs.Layout.{number_bytes}
use Rattle.layout.specs.Rules.{AreBytes, sensors_start, rows_head}
use Rattle.layout.specs.Faults.{Stands, FieldFault, NoFault}
use Rattle.layout.specs.Acceptance.{AxleStands, SpeedsStand, TorquesStand, SensorStands, SensorsStand, AxesStand, SensorsFault, rows_end, Fault, in_kind, in_line, in_ratio, in_speeds, in_torques, in_sensors, in_rows, after_torques, after_rows}
use Rattle.layout.proofs.FieldBytes.{length_number_bytes}
use Rattle.layout.proofs.OneField.{Decided, wrong, right, told_as, field_accepted, field_refused, field_decided}
use Rattle.layout.proofs.BodyChecks.{one_byte_checked, two_bytes_checked, axis_checked, torque_axis, torque_checked, sensor_checked, rows_checked}

-- ---- a test after a field is a test in its body check
module _ {A B : Type 0} (test : A → Bool) (number : ℕ) (after : Field A → Outcome B) where
  by_test : (a : A) (place end : ℕ) (b : Bool)
      → (require b number place >>= λ _. after (record { value = a; start = place; next = end }))
      ≡ (((require b number place >>= λ _. accepted a) >>= λ v. accepted (record { value = v; start = place; next = end })) >>= after)
  by_test a place end true = refl
  by_test a place end false = refl

  by_value : (place end : ℕ) (o : Outcome A)
      → ((o >>= λ v. accepted (record { value = v; start = place; next = end })) >>= λ f. (require (test f.value) number f.start >>= λ _. after f))
      ≡ (((o >>= λ a. (require (test a) number place >>= λ _. accepted a)) >>= λ v. accepted (record { value = v; start = place; next = end })) >>= after)
  by_value place end (accepted a) = by_test a place end (test a)
  by_value place end (refused t) = refl

  by_head : (bytes : List ℕ) (check : List ℕ → ℕ → Outcome A) (o : Outcome Head)
      → ((o >>= λ found. (check (between bytes found.start found.end) found.start >>= λ v. accepted (record { value = v; start = found.start; next = found.end })))
      >>= λ f. (require (test f.value) number f.start >>= λ _. after f))
      ≡ ((o >>= λ found. ((check (between bytes found.start found.end) found.start >>= λ a. (require (test a) number found.start >>= λ _. accepted a))
      >>= λ v. accepted (record { value = v; start = found.start; next = found.end })))
      >>= after)
  by_head bytes check (accepted found) = by_value found.start found.end (check (between bytes found.start found.end) found.start)
  by_head bytes check (refused t) = refl

-- tags 4 and 5 with the first step tested in the body of tag 5
abbrev axes_tested : List ℕ → ℕ → Outcome (Run AxesNumbers)
axes_tested bytes at = do
  speeds ← field bytes at 4 (numbers 2 32) (axis (1 to 3000))
  torques ← field bytes speeds.next 5 (numbers 2 64) torque_axis
  accepted (record {
    value = record { speeds = speeds.value; torques = torques.value };
    next = torques.next;
  })

axes_tested_lem : (bytes : List ℕ) (at : ℕ) → axes_fields bytes at ≡ axes_tested bytes at
unfolding axes_fields field
axes_tested_lem bytes at =
    ap (λ (next : Field (List ℕ) → Outcome (Run AxesNumbers)). field bytes at 4 (numbers 2 32) (axis (1 to 3000)) >>= next)
    (fun_ext λ speeds. by_head first_step 6 (λ torques. accepted (record { value = record { speeds = speeds.value; torques = torques.value }; next = torques.next })) bytes (axis (0 to 50000)) (head bytes speeds.next 5 (numbers 2 64)))

-- a sensor has 21 bytes with its head
pub sensor_ends : (at : ℕ) (s : Sensor) → at + 3 + length (number_bytes (sensor_numbers s)) ≡ at + 21
sensor_ends at s = omega (arith, length_number_bytes (sensor_numbers s))

-- a measured kind has as many sensors as its number says
pub tags_count : (kind : ℕ) → 2 ≤ kind → kind ≤ 3 → length (sensor_tags kind) ≡ kind
unfolding output_tags
tags_count zero h k = absurd (omega arith)
tags_count (suc zero) h k = absurd (omega arith)
tags_count (suc (suc zero)) h k = refl
tags_count (suc (suc (suc zero))) h k = refl
tags_count (suc (suc (suc (suc n)))) h k = absurd (omega arith)

module _ (bytes : List ℕ) where
  -- ---- tags 1 to 3
  module _ (kind : ℕ) (there : Stands bytes 0 1 (exactly 1) (kind ∷ [])) (range : InRange (1 to 3) kind) where
    kind_read : field bytes 0 1 (exactly 1) (number (1 to 3) (refusal 4)) ≡ accepted (record { value = kind; start = 3; next = 4 })
    kind_read = field_accepted (one_byte_checked (1 to 3) (refusal 4)) bytes 0 1 kind 4 refl there range

  module _ (line : ℕ) (there : Stands bytes 4 2 (exactly 1) (line ∷ [])) (range : InRange (1 to 5) line) where
    line_read : field bytes 4 2 (exactly 1) (number (1 to 5) (refusal 4)) ≡ accepted (record { value = line; start = 7; next = 8 })
    line_read = field_accepted (one_byte_checked (1 to 5) (refusal 4)) bytes 4 2 line 8 refl there range

  axle_read : (kind line ratio : ℕ) → AxleStands bytes kind line ratio
      → axle_fields bytes 0 ≡ accepted (record { value = record { kind = kind; line = line; ratio = ratio }; next = 13 })
  unfolding axle_fields
  axle_read kind line ratio s =
      rw (kind_read kind s.kind_there s.kind_range, line_read line s.line_there s.line_range, field_accepted (two_bytes_checked (1000 to 20000) ratio_refusal) bytes 8 3 ratio 13 refl s.ratio_there s.ratio_range)

  -- ---- tags 4 and 5
  speeds_read : (speeds : List ℕ) (m : ℕ) → length speeds ≡ m → SpeedsStand bytes speeds
      → field bytes 13 4 (numbers 2 32) (axis (1 to 3000)) ≡ accepted (record { value = speeds; start = 16; next = 16 + 2 * m })
  speeds_read speeds m e s =
      field_accepted (axis_checked (1 to 3000) 32) bytes 13 4 speeds (16 + 2 * m) (omega (arith, length_number_bytes speeds)) s.there s.rules

  axes_read : (speeds torques : List ℕ) (m n : ℕ) → length speeds ≡ m → length torques ≡ n → SpeedsStand bytes speeds → TorquesStand bytes m torques
      → axes_fields bytes 13 ≡ accepted (record { value = record { speeds = speeds; torques = torques }; next = sensors_start m n })
  axes_read speeds torques m n e f s t =
      let place : 16 + 2 * m + 3 + length (number_bytes torques) ≡ sensors_start m n = omega (arith, length_number_bytes torques) in
      axes_tested_lem bytes 13
      ∙ rw (speeds_read speeds m e s, field_accepted torque_checked bytes (16 + 2 * m) 5 torques (sensors_start m n) place t.there (record { rules = t.rules; step = t.step }))

  -- ---- sensors, one after another, each with its tag
  sensor_read : (at tag : ℕ) (s : Sensor) → SensorStands bytes at tag s → field bytes at tag (exactly 18) sensor ≡ accepted (record { value = s; start = at + 3; next = at + 21 })
  sensor_read at tag s h =
      field_accepted sensor_checked bytes at tag s (at + 21) (sensor_ends at s) h.there h.rules

  sensors_read : (at : ℕ) (tags : List ℕ) (sensors : List Sensor) (next : ℕ) → at + 21 * length tags ≡ next → SensorsStand bytes at tags sensors
      → sensor_fields bytes at tags ≡ accepted (record { value = sensors; next = next })
  unfolding sensor_fields
  sensors_read at [] [] next e h =
      let f : at ≡ next = omega arith in
      rw f
  sensors_read at (tag ∷ tags) (s ∷ sensors) next e h = rw (sensor_read at tag s h.0, sensors_read (at + 21) tags sensors next (omega arith) h.1)
  sensors_read at [] (s ∷ sensors) next e h = elim h [ ]
  sensors_read at (tag ∷ tags) [] next e h = elim h [ ]

  sensors_refused : (at : ℕ) (tags : List ℕ) (t : Told) → SensorsFault bytes at tags t → sensor_fields bytes at tags ≡ refused t
  unfolding sensor_fields
  sensors_refused at (tag ∷ tags) t (inl f) = rw (field_refused sensor_checked bytes at tag t f)
  sensors_refused at (tag ∷ tags) t (inr f) = rw (sensor_read at tag f.0 f.1, sensors_refused (at + 21) tags t f.2)
  sensors_refused at [] t x' = elim x' [ ]

  -- ---- a measured kind, after m speeds and n torques
  module _ (kind m n : ℕ) (low : 2 ≤ kind) (high : kind ≤ 3) where
    outputs_end : sensors_start m n + 21 + 21 * length (output_tags kind) ≡ rows_head kind m n
    outputs_end = omega (arith, tags_count kind low high)

    sensors_wrong : (t : Told) → SensorsFault bytes (sensors_start m n) (sensor_tags kind) t → kind_fields bytes (sensors_start m n) kind (m * n) ≡ refused t
    unfolding kind_fields measured_fields
    sensors_wrong t (inl f) = rw (ne_eqb kind 1 (omega arith), field_refused sensor_checked bytes (sensors_start m n) 6 t f)
    sensors_wrong t (inr f) =
        rw (ne_eqb kind 1 (omega arith), sensor_read (sensors_start m n) 6 f.0 f.1, sensors_refused (sensors_start m n + 21) (output_tags kind) t f.2)

    module _ (input : Sensor) (outputs : List Sensor) (stand : SensorsStand bytes (sensors_start m n) (sensor_tags kind) (input ∷ outputs)) where
      -- the rows decide
      after_sensors : kind_fields bytes (sensors_start m n) kind (m * n)
          ≡ (field bytes (rows_head kind m n) (rows_tag kind) (exactly (row_length kind * (m * n))) rows
          >>= λ body. accepted (record { value = measured input outputs body.value; next = body.next }))
      unfolding kind_fields measured_fields
      after_sensors =
          rw (ne_eqb kind 1 (omega arith), sensor_read (sensors_start m n) 6 input stand.0, sensors_read (sensors_start m n + 21) (output_tags kind) outputs (rows_head kind m n) outputs_end stand.1)

      rows_wrong : (t : Told) → FieldFault bytes (rows_head kind m n) (rows_tag kind) (exactly (row_length kind * (m * n))) NoFault t
          → kind_fields bytes (sensors_start m n) kind (m * n) ≡ refused t
      rows_wrong t f =
          after_sensors ∙ rw (field_refused (rows_checked (exactly (row_length kind * (m * n)))) bytes (rows_head kind m n) (rows_tag kind) t f)

      pub measured_read : (body : List ℕ) → Stands bytes (rows_head kind m n) (rows_tag kind) (exactly (row_length kind * (m * n))) body
          → kind_fields bytes (sensors_start m n) kind (m * n)
          ≡ accepted (record { value = measured input outputs (record { start = rows_head kind m n + 3; bytes = body }); next = rows_end kind m n })
      measured_read body s =
          let long = eqb-true (length body) (row_length kind * (m * n)) s.fits in
          let r : Rows = record { start = rows_head kind m n + 3; bytes = body } in
          let e : rows_head kind m n + 3 + length body ≡ rows_end kind m n = omega arith in
          after_sensors
          ∙ rw (field_accepted (rows_checked (exactly (row_length kind * (m * n)))) bytes (rows_head kind m n) (rows_tag kind) r (rows_end kind m n) e s refl)

  -- ---- all fields
  -- "then 12", where everything else is read
  abbrev ending : (line ratio : ℕ) (speeds torques : List ℕ) → Run Kind → Outcome Component
  ending line ratio speeds torques kind = do
    _ ← require (leb (length bytes) kind.next) 12 kind.next
    accepted (record { kind = kind.value; line = line; ratio = ratio; speeds = speeds; torques = torques })

  pub after_axes : (kind m n : ℕ) (s : AxesStand bytes kind m n)
      → component bytes ≡ (kind_fields bytes (sensors_start m n) kind (m * n) >>= ending s.line s.ratio s.speeds s.torques)
  unfolding component
  after_axes kind m n s =
      rw (axle_read kind s.line s.ratio s.axle_stands, axes_read s.speeds s.torques m n s.speed_count s.torque_count s.speeds_stand s.torques_stand, s.speed_count, s.torque_count)

  -- the first field that is wrong decides
  pub fault_refused : (t : Told) → Fault bytes t → component bytes ≡ refused t
  unfolding component axle_fields kind_fields
  fault_refused t (in_kind f) = rw (field_refused (one_byte_checked (1 to 3) (refusal 4)) bytes 0 1 t f)
  fault_refused t (in_line kind k r f) = rw (kind_read kind k r, field_refused (one_byte_checked (1 to 5) (refusal 4)) bytes 4 2 t f)
  fault_refused t (in_ratio kind line k r l q f) =
      rw (kind_read kind k r, line_read line l q, field_refused (two_bytes_checked (1000 to 20000) ratio_refusal) bytes 8 3 t f)
  fault_refused t (in_speeds kind line ratio a f) =
      rw (axle_read kind line ratio a, axes_tested_lem bytes 13, field_refused (axis_checked (1 to 3000) 32) bytes 13 4 t f)
  fault_refused t (in_torques kind line ratio speeds a s f) =
      rw (axle_read kind line ratio a, axes_tested_lem bytes 13, speeds_read speeds (length speeds) refl s, field_refused torque_checked bytes (16 + 2 * length speeds) 5 t f)
  fault_refused t (in_sensors kind m n s h f) =
      after_axes kind m n s ∙ rw (sensors_wrong kind m n h s.axle_stands.kind_range.1 t f)
  fault_refused t (in_rows kind m n (input ∷ outputs) s h i f) =
      after_axes kind m n s ∙ rw (rows_wrong kind m n h s.axle_stands.kind_range.1 input outputs i t f)
  fault_refused t (after_torques m n s more e) =
      after_axes 1 m n s ∙ told_as _ t _ (rw (lt-leb (length bytes) (sensors_start m n) more)) e
  fault_refused t (after_rows kind m n (input ∷ outputs) body s h i r more e) =
      after_axes kind m n s ∙ told_as _ t _ (rw (measured_read kind m n h s.axle_stands.kind_range.1 input outputs i body r, lt-leb (length bytes) (rows_end kind m n) more)) e
  fault_refused t (in_rows kind m n [] s h i f) = elim i [ ]
  fault_refused t (after_rows kind m n [] body s h i r more e) = elim i [ ]

  -- ---- no third case
  module _ (b : AreBytes bytes) where
    pub axes_decided : Decided (Fault bytes) (λ (kind : ℕ). (m : ℕ) × (n : ℕ) × AxesStand bytes kind m n)
    axes_decided = elim (field_decided (one_byte_checked (1 to 3) (refusal 4)) bytes 0 1 b) [
      | wrong t f ↦ wrong t (in_kind f)
      | right kind k ↦ elim (field_decided (one_byte_checked (1 to 5) (refusal 4)) bytes 4 2 b) [
        | wrong t f ↦ wrong t (in_line kind k.0 k.1 f)
        | right line l ↦ elim (field_decided (two_bytes_checked (1000 to 20000) ratio_refusal) bytes 8 3 b) [
          | wrong t f ↦ wrong t (in_ratio kind line k.0 k.1 l.0 l.1 f)
          | right ratio r ↦
              let axle : AxleStands bytes kind line ratio = record { kind_there = k.0; kind_range = k.1; line_there = l.0; line_range = l.1; ratio_there = r.0; ratio_range = r.1 } in
              elim (field_decided (axis_checked (1 to 3000) 32) bytes 13 4 b) [
                | wrong t f ↦ wrong t (in_speeds kind line ratio axle f)
                | right speeds s ↦
                    let speeds_stand : SpeedsStand bytes speeds = record { there = s.0; rules = s.1 } in
                    elim (field_decided torque_checked bytes (16 + 2 * length speeds) 5 b) [
                      | wrong t f ↦ wrong t (in_torques kind line ratio speeds axle speeds_stand f)
                      | right torques q ↦ right kind (
                        length speeds,
                        length torques,
                        record {
                          line = line;
                          ratio = ratio;
                          speeds = speeds;
                          torques = torques;
                          axle_stands = axle;
                          speeds_stand = speeds_stand;
                          torques_stand = record { there = q.0; rules = q.1.rules; step = q.1.step };
                          speed_count = refl;
                          torque_count = refl;
                        },
                      )
                    ]
              ]
        ]
      ]
    ]
