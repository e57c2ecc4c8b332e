-- The rows of a listing, from the parts of its lists. Assumes nothing.
use Rattle.std.proofs.Common.{◌≡◌, ◌<◌, ◌+◌, ◌-◌, ◌*◌, ℕ, List, arith, length, get_or, take, drop, zero-add}
use Rattle.std.proofs.lemmas.List.{get_or-take, get_or-drop}
use Rattle.grid.proofs.Lists.{joined_same}
use Rattle.listing.specs.Listing.{row, row_of_speed}

-- the row of speed i looks at the first m speeds, the first n torques, and its own entries
pub row_of_parts : (speeds torques entries : List ℕ) (m n i : ℕ) → i < m → length (take n torques) ≡ n
    → (let count = length (take n torques) in
    row (get_or (take m speeds) i 0) (take n torques) count (take (i * count + count - i * count) (drop (i * count) entries)) 0 ≡ row_of_speed speeds torques n entries i)
unfolding row
row_of_parts speeds torques entries m n i h l =
    let first = i * n in
    let size : first + n - first ≡ n = omega arith in
    rw (l, size, get_or-take m speeds i 0 h)
    (joined_same _ _ n (λ j k.
    rw (zero-add j, get_or-take n torques j 0 k, get_or-take n (drop first entries) j 0 k, get_or-drop first entries j 0)))
