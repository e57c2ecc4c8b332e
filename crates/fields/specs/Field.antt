-- Document 01, "Component data" and "Refusals", and document 02, C-14 (31): one field. Its head is a tag in one byte and the length of its body in two.
use Rattle.std.specs.Prelude.{ℕ, ◌+◌, ◌*◌, ◌/◌, ◌%◌, Bool, ◌&&◌, List, leb, ltb, eqb, length, get_or}
use Rattle.refusal.specs.Outcome.{Told, refusal_with_index, Outcome, accepted, ◌>>=◌, require_told, require, placed}
use Rattle.grid.specs.Axis.{within, axis_numbers}
use Rattle.grid.specs.declared.Range.{Range}
use Rattle.fields.specs.Bytes.{number_of, pairs, between}

-- the lengths that a body may have: one number of bytes, or fewest to most numbers of two bytes
abbrev pub exactly : ℕ → ℕ → Bool
exactly bytes length = eqb length bytes

abbrev pub numbers : ℕ → ℕ → ℕ → Bool
numbers fewest most length = eqb (length % 2) 0 && (leb fewest (length / 2) && leb (length / 2) most)

-- a field head that was read: the tag that stands there, and the part of the data that the body occupies, from start up to end
pub record Head : Type 0 where
  pub tag : ℕ
  pub start : ℕ
  pub end : ℕ

-- The field due at a place. Its tests in their order: nothing left (2), a head cut off (1), the tag (2), the length (3), a body cut off (1).
unfoldable pub head : List ℕ → ℕ → ℕ → (ℕ → Bool) → Outcome Head
head bytes at tag allowed =
    let body_length = number_of (between bytes (at + 1) (at + 3)) in
    do
      _ ← require (ltb at (length bytes)) 2 at
      _ ← require (leb (at + 3) (length bytes)) 1 at
      _ ← require (eqb (get_or bytes at 0) tag) 2 at
      _ ← require (allowed body_length) 3 at
      _ ← require (leb (at + 3 + body_length) (length bytes)) 1 at
      accepted (record { tag = get_or bytes at 0; start = at + 3; end = at + 3 + body_length })

-- what a field says, where its body starts, and the place past it
pub record Field (A : Type 0) : Type 0 where
  pub value : A
  pub start : ℕ
  pub next : ℕ

-- a field: its head, then its body, handed on as a part of the data: the bytes, and the place of the first
unfoldable pub field : {A : Type 0} → List ℕ → ℕ → ℕ → (ℕ → Bool) → (List ℕ → ℕ → Outcome A) → Outcome (Field A)
field bytes at tag allowed body = do
  found ← head bytes at tag allowed
  value ← body (between bytes found.start found.end) found.start
  accepted (record { value = value; start = found.start; next = found.end })

-- a body of one number, and how it is refused at a place where it is not in its range
unfoldable pub number : Range → (refused_at : (place : ℕ) → Told) → List ℕ → ℕ → Outcome ℕ
number range refused_at body place = do
  _ ← require_told (within range (number_of body)) (refused_at place)
  accepted (number_of body)

-- the refusal of a ratio, which is number 0, the only one of its field
abbrev pub ratio_refusal : (place : ℕ) → Told
ratio_refusal place = refusal_with_index 31 place 0

-- the place of a number of two bytes, by its index in the body
abbrev pub offset : ℕ → ℕ → ℕ
offset place index = place + 2 * index

-- a body of axis numbers
unfoldable pub axis : Range → List ℕ → ℕ → Outcome (List ℕ)
axis range body place = do
  _ ← placed (offset place) (axis_numbers range (pairs body) (length (pairs body)))
  accepted (pairs body)
