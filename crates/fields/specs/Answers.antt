-- What the answers about a field say in document 01's terms.
use Rattle.std.specs.Prelude.{ℕ, Bool, List, ◌≡◌, take}
use Rattle.std.specs.Borrow.{Bor}
use Rattle.refusal.specs.Outcome.{Told, refusal}
use Rattle.grid.specs.Map.{counted_numbers}
use Rattle.grid.specs.declared.Axis.{Axis}
use Rattle.fields.specs.Field.{Head, Field, exactly, numbers, ratio_refusal}
use Rattle.fields.specs.declared.Allowed.{Allowed}
use Rattle.fields.specs.declared.Allowed.TheVariants.{Exactly, Numbers}
use Rattle.fields.specs.declared.Width.{Width}
use Rattle.fields.specs.declared.Width.TheVariants.{One, Two}
use Rattle.fields.specs.declared.Outside.{Outside}
use Rattle.fields.specs.declared.Outside.TheVariants.{KindOrLine, Ratio}
use Rattle.fields.specs.declared.Cursor.{Cursor}
use Rattle.fields.specs.declared.Field.{Field as FieldRead}

-- which lengths are allowed
abbrev pub allowed_of : Allowed → ℕ → Bool
allowed_of (Exactly bytes) = exactly bytes
allowed_of (Numbers fewest most) = numbers fewest most

-- how many bytes a number has
abbrev pub number_bytes : Width → ℕ
number_bytes One = 1
number_bytes Two = 2

-- how a number is refused that is not in its range
abbrev pub outside_of : Outside → (place : ℕ) → Told
outside_of KindOrLine = refusal 4
outside_of Ratio = ratio_refusal

-- a field with its body
abbrev pub head_of : FieldRead (Bor (List ℕ)) → Head
head_of field = record { tag = field.kind; start = field.start; end = field.next.at }

abbrev pub field_of : {A : Type 0} → FieldRead A → Field A
field_of field = record { value = field.value; start = field.start; next = field.next.at }

-- the field has the tag that is due where a cursor stands, and the cursor past it is in the same data
pub record Due {A : Type 0} (cursor : Cursor) (tag : ℕ) (field : FieldRead A) : Type 0 where
  pub tagged : field.kind ≡ tag
  pub same_data : field.next.data ≡ cursor.data

-- an axis is its numbers as far as they are counted
abbrev pub axis_field_of : {places : ℕ} → FieldRead (Axis places) → Field (List ℕ)
axis_field_of field = record { value = counted_numbers field.value; start = field.start; next = field.next.at }

-- the numbers of an axis that were written to the first of the lent places
abbrev pub axis_numbers_of : (places : List ℕ) → FieldRead ℕ → Field (List ℕ)
axis_numbers_of places field = record { value = take field.value places; start = field.start; next = field.next.at }
