-- Loops that check each index and write its value, or a stretch, to the first places of a list: what they have done after i of them. Assumes nothing.
use Prim.Native.Nat.{ℕ, suc, ◌+◌, ◌-◌, ◌*◌, ◌≤◌, ◌<◌}
use Rattle.grid.proofs.Points.{row_within}
use Rattle.grid.specs.Lists.{joined, tabulate, overwritten}
use Rattle.refusal.specs.Outcome.{Outcome, accepted}
use borrow.Rule.Slice.PartMut.{put_mid}
use lib.ListN.{length, drop, set, length-append, length-drop, take, drop_of_length-le}
use lib.Seq.{drop-cons, set_at, take_all, take_at, drop_at, drop-drop}
use mathlib.Core.List.{List, [], ◌∷◌, ◌++◌, append_assoc, append-nil}
use mathlib.Core.Path.{◌≡◌, refl, sym, ◌∙◌}
use native.Mathlib.Nat.{zero-mul, suc-mul, le_of_eq}
use native.Mathlib.Numerals.{add-one}
use native.Mathlib.Omega.{arith}
use Rattle.refusal.proofs.First.{Passed, none_passed, one_passed}
use Rattle.grid.proofs.Lists.{length_tabulate, length_joined}

-- ---- one value after the other

write_next : {A : Type 0} (f : ℕ → A) (i : ℕ) (before : List A) → i < length before → set (tabulate f i ++ drop i before) i (f i) ≡ tabulate f (i + 1) ++ drop (i + 1) before
unfolding tabulate
write_next f i before h =
    rw (drop-cons before i (f i) h, add-one i, set_at (tabulate f i) _ (drop (suc i) before) (f i) i (length_tabulate f i))
    (sym (append_assoc (tabulate f i) (f i ∷ []) (drop (suc i) before)))

pub record Filling {A : Type 0} (check : ℕ → Outcome (Unit {0})) (f : ℕ → A) (count : ℕ) (before now : List A) (i : ℕ) : Type 0 where
  pub passed : Passed check count i
  pub long : length now ≡ length before
  pub written : now ≡ tabulate f i ++ drop i before

module _ {A : Type 0} (check : ℕ → Outcome (Unit {0})) (f : ℕ → A) (count : ℕ) (before : List A) where
  pub none_filled : Filling check f count before before 0
  unfolding tabulate
  none_filled = record { passed = none_passed check count; long = refl; written = refl }

  module _ (now : List A) (i : ℕ) (p : Filling check f count before now i) where
    pub one_filled : i < count → count ≤ length before → check i ≡ accepted tt → (e : A) → e ≡ f i → Filling check f count before (set now i e) (i + 1)
    one_filled more fits fine e h =
        let r : i < length before = omega arith in
        let w : set now i e ≡ tabulate f (i + 1) ++ drop (i + 1) before = rw (p.written, h) (write_next f i before r) in
        record {
          passed = one_passed check count p.passed more fine;
          long = rw w (simp (length-append, length_tabulate f (i + 1), length-drop) (omega arith));
          written = w;
        }

-- ---- a tail `s[a..]` that was lent, and one that is back with ys in its place
pub tail_lent : (a : ℕ) (xs : List ℕ) → take (length xs - a) (drop a xs) ≡ drop a xs
tail_lent a xs = take_all (length xs - a) (drop a xs) (le_of_eq (length-drop a xs))

tail_back : (a : ℕ) (xs ys : List ℕ) → put_mid a (length xs - a) xs ys ≡ take a xs ++ ys
tail_back a xs ys = rw (drop_of_length-le (drop a xs) {i = length xs - a} (le_of_eq (length-drop a xs)), append-nil ys) refl

part_written : (t u p : List ℕ) (a n : ℕ) → length t ≡ a → take a (t ++ drop a p) ++ (u ++ drop n (drop a (t ++ drop a p))) ≡ (t ++ u) ++ drop (a + n) p
part_written t u p a n e =
    rw (take_at t (drop a p) a e, drop_at t (drop a p) a e, drop-drop n a p)
    (sym (append_assoc t u (drop (a + n) p)))

-- ---- one stretch after the other

pub record Joining (check : ℕ → Outcome (Unit {0})) (f : ℕ → List ℕ) (n count : ℕ) (before now : List ℕ) (first i : ℕ) : Type 0 where
  pub passed : Passed check count i
  pub at : first ≡ i * n
  pub long : length now ≡ length before
  pub written : now ≡ joined f i ++ drop first before

module _ (check : ℕ → Outcome (Unit {0})) (f : ℕ → List ℕ) (n count : ℕ) (sizes : (s : ℕ) → s < count → length (f s) ≡ n) (before : List ℕ) where
  pub none_joined : Joining check f n count before before 0 0
  unfolding joined
  none_joined = record { passed = none_passed check count; at = sym (zero-mul n); long = refl; written = refl }

  module _ (now : List ℕ) (first i : ℕ) (p : Joining check f n count before now first i) where
    pub room : i < count → first + n ≤ count * n
    room h = rw p.at (row_within i count n h)

    pub one_joined : i < count → check i ≡ accepted tt → (part : List ℕ)
        → part ≡ overwritten (f i) (take (length now - first) (drop first now))
        → length (put_mid first (length now - first) now part) ≡ length now
        → Joining check f n count before (put_mid first (length now - first) now part) (first + n) (i + 1)
    unfolding joined
    one_joined more fine part e l =
        let s : length (joined f i) ≡ first = length_joined f n i (λ s l. sizes s (omega arith)) ∙ sym p.at in
        record {
          passed = one_passed check count p.passed more fine;
          at = rw (add-one, suc-mul, p.at);
          long = l ∙ p.long;
          written =
              rw add-one
              (tail_back first now part ∙ rw (e, sizes i more, tail_lent first now, p.written) (part_written (joined f i) (f i) before first n s));
        }
