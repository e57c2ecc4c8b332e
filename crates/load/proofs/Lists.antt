-- Joined lists, and joined lists of joined lists. Assumes nothing.
use Rattle.std.proofs.Common.{◌≡◌, ◌∙◌, ◌+◌, ◌*◌, ◌<◌, ℕ, zero, suc, refl, sym, ap, arith, List, [], ◌++◌, append_assoc, append-nil, add-suc, suc-mul, zero-mul, add-zero}
use Rattle.grid.specs.Lists.{joined}
use Rattle.grid.proofs.Lists.{joined_same}

-- the first of them, and the others after it
pub joined_front : (f : ℕ → List ℕ) (count : ℕ) → joined f (suc count) ≡ f 0 ++ joined (λ k. f (suc k)) count
unfolding joined
joined_front f zero = sym (append-nil (f 0))
joined_front f (suc count) = ap (λ l. l ++ f (suc count)) (joined_front f count) ∙ append_assoc (f 0) (joined (λ k. f (suc k)) count) (f (suc count))

-- the first, and those from there on
joined_more : (f : ℕ → List ℕ) (first count : ℕ) → joined f (first + count) ≡ joined f first ++ joined (λ k. f (first + k)) count
unfolding joined
joined_more f first zero = rw (add-zero first) (sym (append-nil (joined f first)))
joined_more f first (suc count) =
    rw (add-suc first count)
    (ap (λ l. l ++ f (first + count)) (joined_more f first count) ∙ append_assoc (joined f first) (joined (λ k. f (first + k)) count) (f (first + count)))

-- the first of those from an index on, and the others
pub joined_from : (f : ℕ → List ℕ) (from count : ℕ) → joined (λ j. f (from + j)) (suc count) ≡ f from ++ joined (λ j. f (suc from + j)) count
unfolding joined
joined_from f from zero = rw (add-zero, append-nil)
joined_from f from (suc count) =
    let next : from + suc count ≡ suc from + count = omega arith in
    rw (joined_from f from count, next) (append_assoc (f from) _ _)

-- none of them
pub joined_none : (f : ℕ → List ℕ) → [] ≡ joined f 0
unfolding joined
joined_none f = refl

-- joined lists, joined: m times n of them
pub joined_flat : (f : ℕ → ℕ → List ℕ) (flat : ℕ → List ℕ) (n m : ℕ) → ((i j : ℕ) → j < n → f i j ≡ flat (i * n + j)) → joined (λ i. joined (f i) n) m ≡ joined flat (m * n)
unfolding joined
joined_flat f flat n zero same = rw zero-mul
joined_flat f flat n (suc m) same =
    rw (suc-mul, joined_more flat (m * n) n, joined_flat f flat n m same, joined_same (f m) (λ j. flat (m * n + j)) n (λ j l. same m j l))
