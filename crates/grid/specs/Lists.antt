-- Lists by their indices.
use Rattle.std.specs.Prelude.{ℕ, zero, suc, List, [], ◌∷◌, ◌++◌, length, drop}

-- f 0, f 1, .., count of them
unfoldable pub tabulate : {A : Type 0} → (ℕ → A) → (count : ℕ) → List A
tabulate f zero = []
tabulate f (suc count) = tabulate f count ++ (f count ∷ [])

-- the lists f 0, f 1, .., count of them, one after another
unfoldable pub joined : (ℕ → List ℕ) → (count : ℕ) → List ℕ
joined f zero = []
joined f (suc count) = joined f count ++ f count

-- the new elements in place of the first of the old ones, and nothing past them touched
abbrev pub overwritten : {A : Type 0} → (new old : List A) → List A
overwritten new old = new ++ drop (length new) old
