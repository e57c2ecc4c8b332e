-- Laws of entries that have a bound. Assumes nothing.
use Rattle.std.proofs.Common.{◌≡◌, ℕ, ◌+◌, ◌≤◌, ◌<◌, Bool, leb, List, ◌∷◌, length, get_or, drop, Decides, EachIndex, slice_index, slice_range, arith}
use Rattle.std.proofs.lemmas.Grind.{common_steps}
use Rattle.std.proofs.lemmas.List.{drop_more}
use Rattle.std.proofs.lemmas.Bool.Decides.{same_from_decides}
use borrow.Author.Tests.{le-leb, leb-true}
use Rattle.grid.specs.Map.{valid_entries}
use Rattle.grid.proofs.Every.{and_snd, every_at, every_of}

-- what stands first in the rest of a list, and what stands after it
pub first_of_rest : (xs rest : List ℕ) (i x : ℕ) → drop i xs ≡ x ∷ rest → (i < length xs) × (x ≡ get_or xs i 0) × (rest ≡ drop (i + 1) xs)
first_of_rest xs rest i x e =
    let l : i < length xs = grind (arith, common_steps) in
    let m = drop_more xs i 0 l in
    (l, cc, cc)

-- of as many entries as there are points, the test tells whether each is small
pub valid_tells : (entries part : List ℕ) (count : ℕ) → count ≤ length entries → part ≡ slice_range entries 0 count → (r : Bool) →
    Decides r (EachIndex part (λ k. slice_index part k ≤ 10000000)) → r ≡ valid_entries entries count
unfolding valid_entries
valid_tells entries part count l e r h =
    let n : length part ≡ count = grind (arith, common_steps) in
    let at : (k : ℕ) → k < count → get_or part k 0 ≡ get_or entries k 0 = λ k m. grind (arith, common_steps) in
    same_from_decides r _ h (
      λ v k m. let b : k < count = omega arith in rw (at k b) (leb-true _ _ (every_at _ count (and_snd (leb count (length entries)) _ v) k b)),
      λ p. rw (le-leb _ _ l) (every_of _ count (λ k m. le-leb _ _ (rw (← at k m) (p k (omega arith))))),
    )
