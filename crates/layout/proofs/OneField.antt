-- One field, whatever its tag, place and body check: it is wrong or it stands there, and its outcome follows. Assumes nothing.
use Prim.Native.Nat.{ℕ, ◌+◌, ◌-◌, ◌/◌, ◌%◌, ◌≤◌}
use mathlib.Core.Path.{◌≡◌, refl, sym, ◌∙◌}
use mathlib.Core.Bool.{Bool, true, false}
use mathlib.Core.List.{List, ◌++◌}
use native.Mathlib.Omega.{arith}
use native.Mathlib.Decide.{dec_le, ℕ_discrete}
use lib.ListN.{length, get_or, drop, take-append-drop}
use lib.Seq.{take-append_seam, drop-drop}
use Rattle.refusal.specs.Outcome.{refusal, Told, Outcome, accepted, refused}
use Rattle.fields.specs.Bytes.{number_of, between}
use Rattle.fields.specs.Field.{head, field}
use Rattle.fields.proofs.Heads as heads
use Rattle.layout.specs.Layout.{field_bytes}
use Rattle.layout.specs.Rules.{AreBytes}
use Rattle.layout.specs.Faults.{Stands, length_at, HeadFault, head_incomplete, other_tag, none_left, other_length, body_incomplete, FieldFault, in_head, in_body}
use Rattle.layout.proofs.FieldBytes.{length_said, three_bytes, two_bytes_of, between_bytes, from_field, field_stands}

-- what was looked at is wrong, with its refusal, or right, with its value
pub data Decided {A : Type 0} (Wrong : Told → Type 0) (Right : A → Type 0) : Type 0 where
  wrong : (t : Told) → Wrong t → Decided Wrong Right
  right : (a : A) → Right a → Decided Wrong Right

-- an outcome that is told with another name of its refusal
pub told_as : {A : Type 0} (o : Outcome A) (t u : Told) → o ≡ refused u → t ≡ u → o ≡ refused t
told_as o t u e f = cc

-- ---- the head
module _ (bytes : List ℕ) (at tag : ℕ) (allowed : ℕ → Bool) where
  pub head_fault : (t : Told) → HeadFault bytes at tag allowed t → head bytes at tag allowed ≡ refused t
  head_fault t (head_incomplete some few e) = told_as _ t _ (sym (heads.incomplete bytes at tag allowed some (omega arith))) e
  head_fault t (other_tag complete not e) = told_as _ t _ (sym (heads.other_tag bytes at tag allowed (omega arith) (omega arith) not)) e
  head_fault t (none_left none e) = told_as _ t _ (sym (heads.no_bytes bytes at tag allowed none)) e
  head_fault t (other_length complete tagged not e) =
      told_as _ t _ (sym (heads.not_allowed bytes at tag allowed (omega arith) (omega arith) (length_at bytes at) tagged (sym (length_said bytes at complete)) not)) e
  head_fault t (body_incomplete complete tagged fits past e) =
      told_as _ t _ (sym (heads.past_end bytes at tag allowed (omega arith) (omega arith) (length_at bytes at) tagged (sym (length_said bytes at complete)) fits (omega arith))) e

  -- bytes that make up a whole head and a whole body
  whole_stands : AreBytes bytes → at + 3 ≤ length bytes → get_or bytes at 0 ≡ tag → allowed (length_at bytes at) ≡ true → at + 3 + length_at bytes at ≤ length bytes
      → Stands bytes at tag allowed (between bytes (at + 3) (at + 3 + length_at bytes at))
  unfolding field_bytes
  whole_stands b complete tagged fits ends =
      let len = length_at bytes at in
      let body = between bytes (at + 3) (at + 3 + len) in
      let long : length body ≡ len = heads.between_length bytes (at + 3) (at + 3 + len) (omega arith) ends ∙ (omega arith) in
      let len_is : at + 3 + len - (at + 3) ≡ len = omega arith in
      let after : drop (at + 3) bytes ≡ body ++ drop (at + 3 + len) bytes =
      rw (len_is, ← drop-drop len (at + 3) bytes) (sym (take-append-drop len (drop (at + 3) bytes)))
      in
      let two = two_bytes_of (get_or bytes (at + 1) 0) (get_or bytes (at + 2) 0) (b (at + 2) (omega arith)) in
      let here : drop at bytes ≡ field_bytes tag body ++ drop (at + 3 + len) bytes =
      rw long (cc (three_bytes bytes at complete, two, after, tagged))
      in
      field_stands bytes at tag allowed body (drop (at + 3 + len) bytes) here (rw long fits)

  pub head_decided : AreBytes bytes → Decided (HeadFault bytes at tag allowed) (λ (body : List ℕ). Stands bytes at tag allowed body × AreBytes body)
  head_decided b = elim (dec_le (length bytes) at) [
    | yes none ↦ wrong (refusal 2 at) (none_left none refl)
    | no some ↦ elim (dec_le (at + 3) (length bytes)) [
      | no few ↦ wrong (refusal 1 at) (head_incomplete (omega arith) (omega arith) refl)
      | yes complete ↦ elim (ℕ_discrete (get_or bytes at 0) tag) [
        | no not ↦ wrong (refusal 2 at) (other_tag complete not refl)
        | yes tagged ↦ by_length complete tagged (allowed (length_at bytes at)) refl
      ]
    ]
  ]
    where
      by_length : at + 3 ≤ length bytes → get_or bytes at 0 ≡ tag → (fits : Bool) → allowed (length_at bytes at) ≡ fits → Decided (HeadFault bytes at tag allowed) (λ (body : List ℕ). Stands bytes at tag allowed body × AreBytes body)
      by_length complete tagged false e = wrong (refusal 3 at) (other_length complete tagged e refl)
      by_length complete tagged true e = elim (dec_le (at + 3 + length_at bytes at) (length bytes)) [
        | no past ↦ wrong (refusal 1 at) (body_incomplete complete tagged e (omega arith) refl)
        | yes ends ↦ right (between bytes (at + 3) (at + 3 + length_at bytes at)) (whole_stands b complete tagged e ends, between_bytes bytes (at + 3) (at + 3 + length_at bytes at) b)
      ]

  pub head_stands : (body : List ℕ) → Stands bytes at tag allowed body → head bytes at tag allowed ≡ accepted (record { tag = tag; start = at + 3; end = at + 3 + length body })
  unfolding field_bytes
  head_stands body s =
      let len = length body in
      let here = from_field bytes at tag allowed body (at + 3 + len) refl s in
      let complete : at + 3 ≤ length bytes = omega (arith, s.ends) in
      let same = sym (three_bytes bytes at complete) ∙ here in
      let tagged : get_or bytes at 0 ≡ tag = cc same in
      let high : get_or bytes (at + 1) 0 ≡ len / 256 = cc same in
      let low : get_or bytes (at + 2) 0 ≡ len % 256 = cc same in
      let said : len ≡ number_of (between bytes (at + 1) (at + 3)) = omega (arith, length_said bytes at complete) in
      rw tagged at (sym (heads.whole bytes at tag allowed (omega arith) (omega arith) len tagged said s.fits (omega (arith, s.ends))))

  pub body_there : (body : List ℕ) → Stands bytes at tag allowed body → between bytes (at + 3) (at + 3 + length body) ≡ body
  unfolding field_bytes
  body_there body s =
      let len = length body in
      let len_is : at + 3 + len - (at + 3) ≡ len = omega arith in
      let complete : at + 3 ≤ length bytes = omega (arith, s.ends) in
      let same = sym (three_bytes bytes at complete) ∙ from_field bytes at tag allowed body (at + 3 + len) refl s in
      let after : drop (at + 3) bytes ≡ body ++ drop (at + 3 + len) bytes = cc same in
      rw (len_is, after) (take-append_seam body (drop (at + 3 + len) bytes))

-- ---- the whole field

-- What is known of a body check: which bytes say a value, which values are right at a place, and what else is wrong.
pub record Checked {A : Type 0} (allowed : ℕ → Bool) (check : List ℕ → ℕ → Outcome A) (bytes_of : A → List ℕ) (Right : A → ℕ → Type 0)
    (BodyFault : List ℕ → ℕ → Told → Type 0) : Type 0 where
  pub decided : (body : List ℕ) (place : ℕ) → AreBytes body → allowed (length body) ≡ true
      → Decided (BodyFault body place) (λ (a : A). (body ≡ bytes_of a) × Right a place)
  pub accepts : (a : A) (place : ℕ) → Right a place → check (bytes_of a) place ≡ accepted a
  pub refuses : (body : List ℕ) (place : ℕ) (t : Told) → BodyFault body place t → check body place ≡ refused t

module _ {A : Type 0} {allowed : ℕ → Bool} {check : List ℕ → ℕ → Outcome A} {bytes_of : A → List ℕ} {Right : A → ℕ → Type 0}
    {BodyFault : List ℕ → ℕ → Told → Type 0} (checked : Checked allowed check bytes_of Right BodyFault) (bytes : List ℕ) (at tag : ℕ) where
  -- a field that stands there with a right value is read as that value
  pub field_accepted : (a : A) (next : ℕ) → at + 3 + length (bytes_of a) ≡ next → Stands bytes at tag allowed (bytes_of a) → Right a (at + 3)
      → field bytes at tag allowed check ≡ accepted (record { value = a; start = at + 3; next = next })
  unfolding field
  field_accepted a next e s r =
      rw (head_stands bytes at tag allowed (bytes_of a) s, body_there bytes at tag allowed (bytes_of a) s, checked.accepts a (at + 3) r, e)

  pub field_refused : (t : Told) → FieldFault bytes at tag allowed BodyFault t → field bytes at tag allowed check ≡ refused t
  unfolding field
  field_refused t (in_head f) = rw (head_fault bytes at tag allowed t f)
  field_refused t (in_body body s f) =
      rw (head_stands bytes at tag allowed body s, body_there bytes at tag allowed body s, checked.refuses body (at + 3) t f)

  -- a field is wrong, or stands there with a right value
  pub field_decided : AreBytes bytes → Decided (FieldFault bytes at tag allowed BodyFault) (λ (a : A). Stands bytes at tag allowed (bytes_of a) × Right a (at + 3))
  field_decided b = elim (head_decided bytes at tag allowed b) [
    | wrong t f ↦ wrong t (in_head f)
    | right body s ↦ elim (checked.decided body (at + 3) s.1 s.0.fits) [
      | wrong t f ↦ wrong t (in_body body s.0 f)
      | right a r ↦ right a (rw r.0 at s.0, r.1)
    ]
  ]
