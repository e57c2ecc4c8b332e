-- Demand 1, in short: every data ends in a map or in one refusal, and a refusal leaves what was lent. Assumes nothing.
use Prim.Native.Nat.{ℕ, ◌+◌, ◌*◌, ◌≤◌, ◌<◌}
use mathlib.Core.Path.{◌≡◌, refl, ap}
use mathlib.Core.Bool.{Bool}
use mathlib.Core.List.{List, [], ◌∷◌}
use mathlib.Core.Logic.{inl, inr, ⊎_elim}
use native.Mathlib.Omega.{arith}
use Rattle.refusal.specs.Outcome.{Told, refusal, Outcome, accepted, refused}
use Rattle.refusal.specs.declared.Refusal.{Refusal}
use Rattle.grid.specs.declared.Range.{Range}
use Rattle.grid.specs.LossMap.{LossMap}
use Rattle.fields.specs.Field.{ratio_refusal}
use Rattle.component.specs.Component.{Component, Kind, standard, measured, sensor_tags}
use Rattle.layout.specs.Rules.{AreBytes, sensors_start}
use Rattle.layout.specs.Faults.{HeadFault, head_incomplete, other_tag, none_left, other_length, body_incomplete, FieldFault, in_head, in_body, NumberFault, AxisFault, TorqueFault, numbers_wrong, step_wrong, SensorFault}
use Rattle.layout.specs.Acceptance.{Fault, in_kind, in_line, in_ratio, in_speeds, in_torques, SensorsFault, in_sensors, in_rows, after_torques, after_rows}
use Rattle.loss.specs.Measured.{Output, Row}
use Rattle.map.specs.Build.{points, build}
use Rattle.map.specs.Acceptance.{PointFault, Reason, in_data, too_few, in_row}
use Rattle.rows.specs.Acceptance.{OutputsFault, RowFault, input_above, output_above, off_axis, negative, too_large}
use Rattle.std.specs.Prelude.{Some, None, Err}
use Rattle.map.specs.Answers.{Builds}
use Rattle.map.proofs.Acceptance.{build_refused}

-- ---- the refusals of a build

-- a refused build has a number from 1 to 12 and no index; or 31, of the ratio, which is number 0; or 32, of one of a sensor's nine numbers
pub data OfBuild (t : Told) : Type 0 where
  without_index : 1 ≤ t.number → t.number ≤ 12 → t.index ≡ None → OfBuild t
  of_ratio : t.number ≡ 31 → t.index ≡ Some 0 → OfBuild t
  of_sensor : (i : ℕ) → i < 9 → t.number ≡ 32 → t.index ≡ Some i → OfBuild t

told_so : (t : Told) (number place : ℕ) → t ≡ refusal number place → 1 ≤ number → number ≤ 12 → OfBuild t
told_so t number place e low high =
    let n : t.number ≡ number = ap (λ (u : Told). u.number) e in
    without_index (omega arith) (omega arith) (ap (λ (u : Told). u.index) e)

module _ (bytes : List ℕ) (t : Told) where
  of_head : (at tag : ℕ) (allowed : ℕ → Bool) → HeadFault bytes at tag allowed t → OfBuild t
  of_head at tag allowed (head_incomplete _ _ e) = told_so t 1 at e (omega arith) (omega arith)
  of_head at tag allowed (other_tag _ _ e) = told_so t 2 at e (omega arith) (omega arith)
  of_head at tag allowed (none_left _ e) = told_so t 2 at e (omega arith) (omega arith)
  of_head at tag allowed (other_length _ _ _ e) = told_so t 3 at e (omega arith) (omega arith)
  of_head at tag allowed (body_incomplete _ _ _ _ e) = told_so t 1 at e (omega arith) (omega arith)

  of_field : (at tag : ℕ) (allowed : ℕ → Bool) (BodyFault : List ℕ → ℕ → Told → Type 0) → ((body : List ℕ) (place : ℕ) → BodyFault body place t → OfBuild t)
      → FieldFault bytes at tag allowed BodyFault t → OfBuild t
  of_field at tag allowed BodyFault f (in_head h) = of_head at tag allowed h
  of_field at tag allowed BodyFault f (in_body body _ h) = f body (at + 3) h

  of_number_fault : (range : Range) (body : List ℕ) (place : ℕ) → NumberFault range (refusal 4) body place t → OfBuild t
  of_number_fault range body place h = told_so t 4 place h.told (omega arith) (omega arith)

  of_ratio_fault : (range : Range) (body : List ℕ) (place : ℕ) → NumberFault range ratio_refusal body place t → OfBuild t
  of_ratio_fault range body place h = of_ratio (ap (λ (u : Told). u.number) h.told) (ap (λ (u : Told). u.index) h.told)

  of_axis_fault : (range : Range) (body : List ℕ) (place : ℕ) → AxisFault range body place t → OfBuild t
  of_axis_fault range body place h =
      ⊎_elim (λ w. told_so t 4 (place + 2 * h.index) w.1 (omega arith) (omega arith)) (λ w. told_so t 5 (place + 2 * h.index) w.3 (omega arith) (omega arith)) h.wrong

  of_torque_fault : (body : List ℕ) (place : ℕ) → TorqueFault body place t → OfBuild t
  of_torque_fault body place (numbers_wrong h) = of_axis_fault _ body place h
  of_torque_fault body place (step_wrong _ _ e) = told_so t 6 place e (omega arith) (omega arith)

  of_sensor_fault : (body : List ℕ) (place : ℕ) → SensorFault body place t → OfBuild t
  of_sensor_fault body place h = of_sensor h.index h.below (ap (λ (u : Told). u.number) h.told) (ap (λ (u : Told). u.index) h.told)

  of_sensors : (at : ℕ) (tags : List ℕ) → SensorsFault bytes at tags t → OfBuild t
  of_sensors at [] h = absurd h
  of_sensors at (tag ∷ tags) (inl h) = of_field at tag _ _ of_sensor_fault h
  of_sensors at (tag ∷ tags) (inr h) = of_sensors (at + 21) tags h.2

  of_fault : Fault bytes t → OfBuild t
  of_fault (in_kind h) = of_field _ _ _ _ (of_number_fault _) h
  of_fault (in_line _ _ _ h) = of_field _ _ _ _ (of_number_fault _) h
  of_fault (in_ratio _ _ _ _ _ _ h) = of_field _ _ _ _ (of_ratio_fault _) h
  of_fault (in_speeds _ _ _ _ h) = of_field _ _ _ _ (of_axis_fault _) h
  of_fault (in_torques _ _ _ _ _ _ h) = of_field _ _ _ _ of_torque_fault h
  of_fault (in_sensors kind m n _ _ h) = of_sensors (sensors_start m n) (sensor_tags kind) h
  of_fault (in_rows _ _ _ _ _ _ _ h) = of_field _ _ _ _ (λ body place none. absurd none) h
  of_fault (after_torques _ _ _ _ e) = told_so t 12 _ e (omega arith) (omega arith)
  of_fault (after_rows _ _ _ _ _ _ _ _ _ _ e) = told_so t 12 _ e (omega arith) (omega arith)

of_outputs : (os : List Output) (place : ℕ) (t : Told) → OutputsFault os place t → OfBuild t
of_outputs [] place t h = absurd h
of_outputs (o ∷ os) place t (inl h) = told_so t 7 place h.1 (omega arith) (omega arith)
of_outputs (o ∷ os) place t (inr h) = of_outputs os (place + 4) t h.1

of_row : (torque : ℕ) (row : Row) (place : ℕ) (t : Told) → RowFault torque row place t → OfBuild t
of_row torque row place t (input_above _ e) = told_so t 7 place e (omega arith) (omega arith)
of_row torque row place t (output_above _ h) = of_outputs row.outputs (place + 4) t h
of_row torque row place t (off_axis _ _ _ e) = told_so t 8 (place + 4) e (omega arith) (omega arith)
of_row torque row place t (negative _ _ _ _ _ e) = told_so t 9 place e (omega arith) (omega arith)
of_row torque row place t (too_large _ _ _ _ _ _ e) = told_so t 10 place e (omega arith) (omega arith)

of_point : (c : Component) (i j : ℕ) (kind : Kind) (t : Told) → PointFault c i j kind t → OfBuild t
of_point c i j standard t f = absurd f
of_point c i j (measured input outputs rows) t f = of_row _ _ _ t f

of_reason : (bytes : List ℕ) (lent : ℕ) (t : Told) → Reason bytes lent t → OfBuild t
of_reason bytes lent t (in_data f) = of_fault bytes t f
of_reason bytes lent t (too_few c _ _ _ e) = told_so t 11 (points c) e (omega arith) (omega arith)
of_reason bytes lent t (in_row c _ _ _ w) = of_point c w.speed w.torque c.kind t w.wrong

pub of_build : (bytes : List ℕ) (lent : ℕ) → AreBytes bytes → (t : Told) → build bytes lent ≡ refused t → OfBuild t
of_build bytes lent are_bytes t e = of_reason bytes lent t (build_refused bytes lent t are_bytes e)

-- ---- demand 1

-- a map, or one of these refusals
pub data Ends (o : Outcome LossMap) : Type 0 where
  in_a_map : (m : LossMap) → o ≡ accepted m → Ends o
  in_a_refusal : (t : Told) → o ≡ refused t → OfBuild t → Ends o

ends_by : (o p : Outcome LossMap) → o ≡ p → ((t : Told) → o ≡ refused t → OfBuild t) → Ends o
ends_by o (accepted m) e f = in_a_map m e
ends_by o (refused t) e f = in_a_refusal t e (f t e)

-- every byte sequence with every count of lent entries
pub build_ends : (bytes : List ℕ) (lent : ℕ) → AreBytes bytes → Ends (build bytes lent)
build_ends bytes lent are_bytes = ends_by (build bytes lent) (build bytes lent) refl (of_build bytes lent are_bytes)

-- a refused build leaves the lent entries as they were
pub refused_leaves : (bytes before after : List ℕ) (x : Refusal) → Builds bytes before after (Err x) → after ≡ before
refused_leaves bytes before after x b = rw (← b.outcome) at b.written
