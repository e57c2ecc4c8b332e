-- Laws of lists that are given by their indices, and of joined lists. Assumes nothing.
use Prim.Native.Nat.{ℕ, zero, suc, ◌*◌, ◌<◌}
use Rattle.grid.specs.Lists.{joined, tabulate}
use lib.ListN.{length, get_or, drop, length-append, take, get_or-append}
use lib.Seq.{take_at, drop_at, get_or_at}
use mathlib.Core.List.{List, [], ◌∷◌, ◌++◌, append_assoc}
use mathlib.Core.Logic.{⊎_elim}
use mathlib.Core.Path.{◌≡◌, refl, sym, ◌∙◌, ap}
use native.Mathlib.Nat.{zero-mul, suc-mul, not-suc-le-zero, eq-or-lt_of_le, le_of_suc-le-suc}
use native.Mathlib.Omega.{arith}

-- ---- as many as are asked for
pub length_tabulate : {A : Type 0} (f : ℕ → A) (n : ℕ) → length (tabulate f n) ≡ n
unfolding tabulate
length_tabulate f zero = refl
length_tabulate f (suc n) = simp (length-append, length_tabulate f n) (omega arith)

pub length_joined : (f : ℕ → List ℕ) (n m : ℕ) → ((s : ℕ) → s < m → length (f s) ≡ n) → length (joined f m) ≡ m * n
unfolding joined
length_joined f n zero e = sym (zero-mul n)
length_joined f n (suc m) e =
    let h = length_joined f n m (λ s l. e s (omega arith)) in
    let k : length (f m) ≡ n = e m (omega arith) in
    simp (length-append, h, k, suc-mul)

-- ---- what stands at an index
pub tabulate_at : {A : Type 0} (f : ℕ → A) (n j : ℕ) (other : A) → j < n → get_or (tabulate f n) j other ≡ f j
unfolding tabulate
tabulate_at f zero j other h = absurd (not-suc-le-zero h)
tabulate_at f (suc n) j other h =
    ⊎_elim
    (λ e. rw e (get_or_at (tabulate f n) (f n) [] other n (length_tabulate f n)))
    (λ l.
    let k : j < length (tabulate f n) = rw (length_tabulate f n) l in
    get_or-append (tabulate f n) (f n ∷ []) other j k ∙ tabulate_at f n j other l)
    (eq-or-lt_of_le (le_of_suc-le-suc h))

-- ---- the same elements
pub tabulate_same : {A : Type 0} (f g : ℕ → A) → ((i : ℕ) → f i ≡ g i) → (count : ℕ) → tabulate f count ≡ tabulate g count
unfolding tabulate
tabulate_same f g e zero = refl
tabulate_same f g e (suc count) = rw (tabulate_same f g e count, e count)

pub joined_same : (f g : ℕ → List ℕ) (m : ℕ) → ((s : ℕ) → s < m → f s ≡ g s) → joined f m ≡ joined g m
unfolding joined
joined_same f g zero e = refl
joined_same f g (suc m) e = rw (joined_same f g m (λ s h. e s (omega arith)), e m (omega arith))

-- the s-th of them, where each has n elements
pub joined_stretch : (f : ℕ → List ℕ) (n m : ℕ) → ((s : ℕ) → s < m → length (f s) ≡ n) → (s : ℕ) → s < m → (rest : List ℕ)
    → take n (drop (s * n) (joined f m ++ rest)) ≡ f s
unfolding joined
joined_stretch f n zero e s h rest = absurd (omega arith)
joined_stretch f n (suc m) e s h rest =
    ⊎_elim
    (λ q.
    let l : length (joined f m) ≡ s * n = length_joined f n m (λ i k. e i (omega arith)) ∙ ap (λ (k : ℕ). k * n) (sym q) in
    let z : length (f m) ≡ n = e m (omega arith) in
    rw (append_assoc (joined f m) (f m) rest, drop_at (joined f m) (f m ++ rest) (s * n) l, take_at (f m) rest n z) (ap f (sym q)))
    (λ k. rw (append_assoc (joined f m) (f m) rest) (joined_stretch f n m (λ i j. e i (omega arith)) s k (f m ++ rest)))
    (eq-or-lt_of_le (le_of_suc-le-suc h))
