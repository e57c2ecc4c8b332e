-- How long accepted data is, and that a beginning longer than that decides: the statements of specs/Length. Assumes nothing.
use Prim.Native.Nat.{ℕ, ◌+◌, ◌-◌, ◌*◌, ◌≤◌, ◌<◌}
use mathlib.Core.Path.{◌≡◌, sym, ap, ◌∙◌}
use mathlib.Core.Bool.{Bool, true}
use mathlib.Core.List.{List, [], ◌∷◌, ◌++◌}
use mathlib.Core.Logic.{inl, inr}
use native.Mathlib.Omega.{arith}
use native.Mathlib.Decide.{dec_le}
use native.Mathlib.Nat.{mul-le-mul}
use borrow.Author.Tests.{eqb-true}
use lib.ListN.{length, get_or, take, drop, length-append, length-take, length-drop, take-append-drop, get_or-append}
use lib.Seq.{take_all, take-append-le, drop-append-le, get_or-take}
use Rattle.refusal.specs.Outcome.{Told}
use Rattle.refusal.proofs.Steps.{never}
use Rattle.fields.specs.Bytes.{between}
use Rattle.fields.specs.Field.{exactly, numbers}
use Rattle.component.specs.Component.{Component, Kind, standard, measured, sensor_count, sensor_tags, row_length, component}
use Rattle.sensor.specs.declared.Sensor.{Sensor}
use Rattle.fields.proofs.Heads.{numbers_bounds}
use Rattle.layout.specs.Layout.{layout}
use Rattle.layout.specs.Rules.{AreBytes, sensors_start, MeasuredRules, Rules}
use Rattle.layout.specs.Faults.{Stands, HeadFault, head_incomplete, other_tag, none_left, other_length, body_incomplete, FieldFault, in_head, in_body}
use Rattle.layout.specs.Acceptance.{AxleStands, SpeedsStand, SensorStands, SensorsStand, AxesStand, SensorsFault, rows_end, Fault, in_kind, in_line, in_ratio, in_speeds, in_torques, in_sensors, in_rows, after_torques, after_rows}
use Rattle.layout.specs.Length.{longest, NoneLonger, BeginningDecides, RefusedWithMore, NotCutShort}
use Rattle.layout.proofs.OneField.{wrong, right}
use Rattle.layout.proofs.Runs.{tags_count, fault_refused}
use Rattle.layout.proofs.Theorems.{length_standard, length_measured, refused_with, component_decided, sound}

-- ---- the longest

rows_end_longest : (kind m n : ℕ) → kind ≤ 3 → m ≤ 32 → n ≤ 64 → rows_end kind m n ≤ longest
rows_end_longest kind m n h k l = omega (arith, mul-le-mul h (mul-le-mul k l))

kind_longest : (kind : Kind) (line ratio : ℕ) (speeds torques : List ℕ) → Rules (record { kind = kind; line = line; ratio = ratio; speeds = speeds; torques = torques })
    → length (layout (record { kind = kind; line = line; ratio = ratio; speeds = speeds; torques = torques })) ≤ longest
kind_longest standard line ratio speeds torques r = omega (arith, length_standard line ratio speeds torques, r.speeds.at_most, r.torques.at_most)
kind_longest (measured input outputs rows) line ratio speeds torques r =
    let k : MeasuredRules (length speeds) (length torques) input outputs rows = r.kind in
    let few : sensor_count outputs ≤ 3 = omega (arith, k.most_outputs) in
    rw (length_measured line ratio speeds torques input outputs rows k)
    (rows_end_longest (sensor_count outputs) (length speeds) (length torques) few r.speeds.at_most r.torques.at_most)

pub laid_longest : (c : Component) → Rules c → length (layout c) ≤ longest
laid_longest c r = kind_longest c.kind c.line c.ratio c.speeds c.torques r

pub none_longer : NoneLonger
none_longer bytes c are_bytes e =
    let s = sound bytes c are_bytes e in
    rw s.1 at (laid_longest c s.0)

-- ---- accepted data with more after it

pub refused_with_more : RefusedWithMore
refused_with_more bytes more c are_bytes e h =
    let s = sound bytes c are_bytes e in
    rw s.1 at (refused_with c more s.0 h)

take_bytes : (bytes : List ℕ) (n : ℕ) → AreBytes bytes → AreBytes (take n bytes)
take_bytes bytes n b i h =
    let l = length-take n bytes in
    rw (get_or-take n bytes i 0 (omega arith)) (b i (omega arith))

pub not_cut_short : NotCutShort
not_cut_short bytes c d n b e h f =
    let some : 0 < length (drop n bytes) = omega (arith, length-drop n bytes) in
    let refusal = rw (take-append-drop n bytes) at (refused_with_more (take n bytes) (drop n bytes) d (take_bytes bytes n b) f some) in
    never _ c (sym refusal ∙ e)

-- the axes of fields that stand there are no longer than their places
few_speeds : {bytes : List ℕ} {kind m n : ℕ} → AxesStand bytes kind m n → m ≤ 32
few_speeds s = omega (arith, s.speed_count, s.speeds_stand.rules.at_most)

few_torques : {bytes : List ℕ} {kind m n : ℕ} → AxesStand bytes kind m n → n ≤ 64
few_torques s = omega (arith, s.torque_count, s.torques_stand.rules.at_most)

measured_longest : {bytes : List ℕ} {kind m n : ℕ} → AxesStand bytes kind m n → rows_end kind m n ≤ longest
measured_longest {bytes} {kind} {m} {n} s = rows_end_longest kind m n s.axle_stands.kind_range.1 (few_speeds s) (few_torques s)

-- ---- what stands in bytes stands in them with more after them, and so does what is wrong, but for what is wrong with the end of the bytes

module _ (bytes more : List ℕ) where
  byte_there : (i : ℕ) → i < length bytes → get_or (bytes ++ more) i 0 ≡ get_or bytes i 0
  byte_there i h = get_or-append bytes more 0 i h

  part_there : (start end : ℕ) → start ≤ end → end ≤ length bytes → between (bytes ++ more) start end ≡ between bytes start end
  part_there start end h k =
      rw (drop-append-le start bytes more (omega arith)) (take-append-le (end - start) (drop start bytes) more (omega (arith, length-drop start bytes)))

  stands : (at tag : ℕ) (allowed : ℕ → Bool) (body : List ℕ) → Stands bytes at tag allowed body → Stands (bytes ++ more) at tag allowed body
  stands at tag allowed body s = record {
    ends = omega (arith, s.ends, length-append bytes more);
    there = part_there at (at + 3 + length body) (omega arith) s.ends ∙ s.there;
    fits = s.fits;
  }

  axle_stands : (kind line ratio : ℕ) → AxleStands bytes kind line ratio → AxleStands (bytes ++ more) kind line ratio
  axle_stands kind line ratio s = record {
    kind_there = stands _ _ _ _ s.kind_there;
    kind_range = s.kind_range;
    line_there = stands _ _ _ _ s.line_there;
    line_range = s.line_range;
    ratio_there = stands _ _ _ _ s.ratio_there;
    ratio_range = s.ratio_range;
  }

  speeds_stand : (speeds : List ℕ) → SpeedsStand bytes speeds → SpeedsStand (bytes ++ more) speeds
  speeds_stand speeds s = record { there = stands _ _ _ _ s.there; rules = s.rules }

  axes_stand : (kind m n : ℕ) → AxesStand bytes kind m n → AxesStand (bytes ++ more) kind m n
  axes_stand kind m n s = record {
    line = s.line;
    ratio = s.ratio;
    speeds = s.speeds;
    torques = s.torques;
    axle_stands = axle_stands kind s.line s.ratio s.axle_stands;
    speeds_stand = speeds_stand s.speeds s.speeds_stand;
    torques_stand = record { there = stands _ _ _ _ s.torques_stand.there; rules = s.torques_stand.rules; step = s.torques_stand.step };
    speed_count = s.speed_count;
    torque_count = s.torque_count;
  }

  sensor_stands : (at tag : ℕ) (sensor : Sensor) → SensorStands bytes at tag sensor → SensorStands (bytes ++ more) at tag sensor
  sensor_stands at tag sensor s = record { there = stands _ _ _ _ s.there; rules = s.rules }

  sensors_stand : (at : ℕ) (tags : List ℕ) (sensors : List Sensor) → SensorsStand bytes at tags sensors → SensorsStand (bytes ++ more) at tags sensors
  sensors_stand at [] [] h = tt
  sensors_stand at (tag ∷ tags) (s ∷ sensors) h = (sensor_stands at tag s h.0, sensors_stand (at + 21) tags sensors h.1)
  sensors_stand at [] (s ∷ sensors) h = elim h [ ]
  sensors_stand at (tag ∷ tags) [] h = elim h [ ]

  -- a field that is due at a place ends within the bytes, whichever of its lengths it has
  record Room (at : ℕ) (allowed : ℕ → Bool) : Type 0 where
    head : at + 3 ≤ length bytes
    body : (len : ℕ) → allowed len ≡ true → at + 3 + len ≤ length bytes

  head_fault : (at tag : ℕ) (allowed : ℕ → Bool) (t : Told) → Room at allowed → HeadFault bytes at tag allowed t → HeadFault (bytes ++ more) at tag allowed t
  head_fault at tag allowed t r (head_incomplete some few e) = absurd (omega (arith, r.head))
  head_fault at tag allowed t r (other_tag complete not e) =
      other_tag (omega (arith, length-append bytes more)) (λ h. not (sym (byte_there at (omega arith)) ∙ h)) e
  head_fault at tag allowed t r (none_left none e) = absurd (omega (arith, r.head))
  head_fault at tag allowed t r (other_length complete tagged not e) =
      other_length (omega (arith, length-append bytes more)) (byte_there at (omega arith) ∙ tagged)
      (rw (byte_there (at + 1) (omega arith), byte_there (at + 2) (omega arith)) not) e
  head_fault at tag allowed t r (body_incomplete complete tagged fits past e) = absurd (omega (arith, r.body _ fits))

  field_fault : (at tag : ℕ) (allowed : ℕ → Bool) (BodyFault : List ℕ → ℕ → Told → Type 0) (t : Told) → Room at allowed
      → FieldFault bytes at tag allowed BodyFault t → FieldFault (bytes ++ more) at tag allowed BodyFault t
  field_fault at tag allowed BodyFault t r (in_head h) = in_head (head_fault at tag allowed t r h)
  field_fault at tag allowed BodyFault t r (in_body body s f) = in_body body (stands at tag allowed body s) f

  module _ (long : longest < length bytes) where
    exact_room : (at size : ℕ) → at + 3 + size ≤ longest → Room at (exactly size)
    exact_room at size h = record { head = omega arith; body = λ len e. omega (arith, eqb-true len size e) }

    axis_room : (at most : ℕ) → at + 4 + 2 * most ≤ longest → Room at (numbers 2 most)
    axis_room at most h = record { head = omega arith; body = λ len e. omega (arith, (numbers_bounds 2 most len e).2) }

    sensors_fault : (at : ℕ) (tags : List ℕ) (t : Told) → at + 21 * length tags ≤ longest → SensorsFault bytes at tags t → SensorsFault (bytes ++ more) at tags t
    sensors_fault at (tag ∷ tags) t h (inl f) = inl (field_fault _ _ _ _ t (exact_room at 18 (omega arith)) f)
    sensors_fault at (tag ∷ tags) t h (inr f) = inr (f.0, sensor_stands at tag f.0 f.1, sensors_fault (at + 21) tags t (omega arith) f.2)
    sensors_fault at [] t h x'' = elim x'' [ ]

    fault : (t : Told) → Fault bytes t → Fault (bytes ++ more) t
    fault t (in_kind f) = in_kind (field_fault _ _ _ _ t (exact_room 0 1 (omega arith)) f)
    fault t (in_line kind k r f) = in_line kind (stands _ _ _ _ k) r (field_fault _ _ _ _ t (exact_room 4 1 (omega arith)) f)
    fault t (in_ratio kind line k r l q f) =
        in_ratio kind line (stands _ _ _ _ k) r (stands _ _ _ _ l) q (field_fault _ _ _ _ t (exact_room 8 2 (omega arith)) f)
    fault t (in_speeds kind line ratio a f) = in_speeds kind line ratio (axle_stands kind line ratio a) (field_fault _ _ _ _ t (axis_room 13 32 (omega arith)) f)
    fault t (in_torques kind line ratio speeds a s f) =
        in_torques kind line ratio speeds (axle_stands kind line ratio a) (speeds_stand speeds s)
        (field_fault _ _ _ _ t (axis_room (16 + 2 * length speeds) 64 (omega (arith, s.rules.at_most))) f)
    fault t (in_sensors kind m n s h f) =
        let sensors_within : sensors_start m n + 21 * length (sensor_tags kind) ≤ longest = omega (arith, tags_count kind h s.axle_stands.kind_range.1, measured_longest s) in
        in_sensors kind m n (axes_stand kind m n s) h (sensors_fault (sensors_start m n) (sensor_tags kind) t sensors_within f)
    fault t (in_rows kind m n sensors s h i f) =
        in_rows kind m n sensors (axes_stand kind m n s) h (sensors_stand (sensors_start m n) (sensor_tags kind) sensors i) (field_fault _ _ _ _ t (exact_room _ (row_length kind * (m * n)) (measured_longest s)) f)
    fault t (after_torques m n s l e) = after_torques m n (axes_stand 1 m n s) (omega (arith, length-append bytes more)) e
    fault t (after_rows kind m n sensors rows s h i r l e) =
        after_rows kind m n sensors rows (axes_stand kind m n s) h (sensors_stand (sensors_start m n) (sensor_tags kind) sensors i) (stands _ _ _ _ r) (omega (arith, length-append bytes more)) e

-- the first bytes decide: what is wrong with them is wrong with all, and they are too long to be accepted
pub beginning_decides : BeginningDecides
beginning_decides bytes limit b h = elim (dec_le (length bytes) limit) [
  | yes few ↦ ap component (take_all limit bytes few)
  | no many ↦
      let l : length (take limit bytes) ≡ limit = length-take limit bytes ∙ omega arith in
      elim (component_decided (take limit bytes) (take_bytes bytes limit b)) [
        | right c r ↦ absurd (omega (arith, laid_longest c r.0, ap length r.1))
        | wrong t f ↦
            let more = rw (take-append-drop limit bytes) at (fault (take limit bytes) (drop limit bytes) (omega arith) t f) in
            fault_refused (take limit bytes) t f ∙ sym (fault_refused bytes t more)
      ]
]
