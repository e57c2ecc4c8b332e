-- The cases of a field head, and of a field. Assumes nothing.
use Prim.Native.Nat.{ℕ, ◌+◌, ◌-◌, ◌*◌, ◌/◌, ◌%◌, ◌≤◌, ◌<◌}
use mathlib.Core.Path.{◌≡◌, sym, ap, ◌∙◌}
use mathlib.Core.Bool.{Bool, true, false, ◌&&◌}
use mathlib.Core.List.{List}
use native.Mathlib.Omega.{arith}
use borrow.Author.Tests.{lt-ltb, le-ltb, le-leb, lt-leb, eq-eqb, ne_eqb, leb-true, eqb-true}
use lib.Dec.{ltb, leb, eqb}
use lib.ListN.{length, get_or, length-take, length-drop}
use Rattle.refusal.specs.Outcome.{Told, Outcome, accepted, refused, refuse}
use Rattle.refusal.proofs.Steps.{test_accepted, same_value}
use Rattle.grid.proofs.Every.{and_fst, and_snd}
use Rattle.fields.specs.Bytes.{number_of, between}
use Rattle.fields.specs.Field.{Head, head, field, exactly, numbers}

module _ (s : List ℕ) (at tag : ℕ) (allowed : ℕ → Bool) where
  pub no_bytes : length s ≤ at → refuse 2 at ≡ head s at tag allowed
  unfolding head
  no_bytes h = rw (le-ltb at (length s) h)

  pub incomplete : at < length s → length s - at < 3 → refuse 1 at ≡ head s at tag allowed
  unfolding head
  incomplete h k = rw (lt-ltb at (length s) h, lt-leb (at + 3) (length s) (omega arith))

  module _ (h : at < length s) (k : 3 ≤ length s - at) where
    pub other_tag : (get_or s at 0 ≡ tag → ⊥) → refuse 2 at ≡ head s at tag allowed
    unfolding head
    other_tag n = rw (lt-ltb at (length s) h, le-leb (at + 3) (length s) (omega arith), ne_eqb (get_or s at 0) tag n)

    module _ (len : ℕ) (t : get_or s at 0 ≡ tag) (e : len ≡ number_of (between s (at + 1) (at + 3))) where
      pub not_allowed : allowed len ≡ false → refuse 3 at ≡ head s at tag allowed
      unfolding head
      not_allowed a = rw (lt-ltb at (length s) h, le-leb (at + 3) (length s) (omega arith), eq-eqb (get_or s at 0) tag t, ← e, a)

      pub past_end : allowed len ≡ true → length s - (at + 3) < len → refuse 1 at ≡ head s at tag allowed
      unfolding head
      past_end a l = rw (lt-ltb at (length s) h, le-leb (at + 3) (length s) (omega arith), eq-eqb (get_or s at 0) tag t, ← e, a, lt-leb (at + 3 + len) (length s) (omega arith))

      pub whole : allowed len ≡ true → len ≤ length s - (at + 3) → accepted (record { tag = get_or s at 0; start = at + 3; end = at + 3 + len }) ≡ head s at tag allowed
      unfolding head
      whole a l = rw (lt-ltb at (length s) h, le-leb (at + 3) (length s) (omega arith), eq-eqb (get_or s at 0) tag t, ← e, a, le-leb (at + 3 + len) (length s) (omega arith))

-- a field head that was read: it stands in the bytes with its tag and a length that is allowed, and so does the body
pub record Whole (s : List ℕ) (at tag : ℕ) (allowed : ℕ → Bool) (f : Head) : Type 0 where
  pub complete : at + 3 ≤ length s
  pub tagged : get_or s at 0 ≡ tag
  pub tag_is : f.tag ≡ tag
  pub start_is : f.start ≡ at + 3
  pub end_is : f.end ≡ at + 3 + number_of (between s (at + 1) (at + 3))
  pub fits : allowed (number_of (between s (at + 1) (at + 3))) ≡ true
  pub ends : f.end ≤ length s

pub head_whole : (s : List ℕ) (at tag : ℕ) (allowed : ℕ → Bool) (f : Head) → accepted f ≡ head s at tag allowed → Whole s at tag allowed f
unfolding head
head_whole s at tag allowed f e =
    let len = number_of (between s (at + 1) (at + 3)) in
    let a = test_accepted (ltb at (length s)) 2 at _ f (sym e) in
    let b = test_accepted (leb (at + 3) (length s)) 1 at _ f a.1 in
    let c = test_accepted (eqb (get_or s at 0) tag) 2 at _ f b.1 in
    let d = test_accepted (allowed len) 3 at _ f c.1 in
    let g = test_accepted (leb (at + 3 + len) (length s)) 1 at _ f d.1 in
    let h = same_value (record { tag = get_or s at 0; start = at + 3; end = at + 3 + len }) f g.1 in
    record {
      complete = leb-true _ _ b.0;
      tagged = eqb-true _ _ c.0;
      tag_is = ap (λ (f : Head). f.tag) (sym h) ∙ eqb-true _ _ c.0;
      start_is = ap (λ (f : Head). f.start) (sym h);
      end_is = ap (λ (f : Head). f.end) (sym h);
      fits = d.0;
      ends = rw (← h) (leb-true _ _ g.0);
    }

-- the body of a field that was read: it goes forward, ends within the bytes, and has a length that is allowed
pub record Inside (s : List ℕ) (allowed : ℕ → Bool) (start end : ℕ) : Type 0 where
  pub forward : start ≤ end
  pub ends : end ≤ length s
  pub fits : allowed (end - start) ≡ true

pub inside : (s : List ℕ) (at tag : ℕ) (allowed : ℕ → Bool) (f : Head) → accepted f ≡ head s at tag allowed → Inside s allowed f.start f.end
inside s at tag allowed f e =
    let w = head_whole s at tag allowed f e in
    let l : f.end - f.start ≡ number_of (between s (at + 1) (at + 3)) = omega (arith, w.start_is, w.end_is) in
    record { forward = omega (arith, w.start_is, w.end_is); ends = w.ends; fits = rw l w.fits }

pub between_length : (s : List ℕ) (start end : ℕ) → start ≤ end → end ≤ length s → length (between s start end) ≡ end - start
between_length s start end h k = simp (length-take, length-drop) (omega arith)

pub numbers_bounds : (fewest most len : ℕ) → numbers fewest most len ≡ true → (len % 2 ≡ 0) × (fewest ≤ len / 2) × (len / 2 ≤ most)
numbers_bounds fewest most len e =
    let a = eqb (len % 2) 0 in
    let b = leb fewest (len / 2) in
    let c = leb (len / 2) most in
    let f = and_snd a (b && c) e in
    (eqb-true _ _ (and_fst a (b && c) e), leb-true _ _ (and_fst b c f), leb-true _ _ (and_snd b c f))

module _ (s : List ℕ) (start end : ℕ) where
  pub exactly_length : (n : ℕ) → Inside s (exactly n) start end → (length (between s start end) ≡ n) × (start + n ≤ length s)
  exactly_length n i =
      let e = between_length s start end i.forward i.ends in
      let f = eqb-true (end - start) n i.fits in
      (e ∙ f, omega (arith, f, i.forward, i.ends))

  pub numbers_length : (fewest most : ℕ) → Inside s (numbers fewest most) start end
      → (length (between s start end) ≤ most * 2) × (fewest ≤ length (between s start end) / 2) × (start + length (between s start end) ≤ length s)
  numbers_length fewest most i =
      let b = numbers_bounds fewest most (end - start) i.fits in
      rw (between_length s start end i.forward i.ends) (omega (arith, b.0, b.2), b.1, omega (arith, i.forward, i.ends))

-- the body that is handed on from a head that was read
module _ (s : List ℕ) (at tag : ℕ) (f : Head) (body : List ℕ) (part : body ≡ between s f.start f.end) where
  pub exact_body : (n : ℕ) → accepted f ≡ head s at tag (exactly n) → (length body ≡ n) × (f.start + n ≤ length s)
  exact_body n e = rw part (exactly_length s f.start f.end n (inside s at tag (exactly n) f e))

  pub numbers_body : (fewest most : ℕ) → accepted f ≡ head s at tag (numbers fewest most)
      → (length body ≤ most * 2) × (fewest ≤ length body / 2) × (f.start + length body ≤ length s)
  numbers_body fewest most e = rw part (numbers_length s f.start f.end fewest most (inside s at tag (numbers fewest most) f e))

-- the cases of a field
module _ {A : Type 0} (s : List ℕ) (at tag : ℕ) (allowed : ℕ → Bool) (body : List ℕ → ℕ → Outcome A) where
  pub head_refused : (t : Told) → refused t ≡ head s at tag allowed → refused t ≡ field s at tag allowed body
  unfolding field
  head_refused t e = rw (← e)

  module _ (f : Head) (e : accepted f ≡ head s at tag allowed) where
    pub body_refused : (t : Told) → refused t ≡ body (between s f.start f.end) f.start → refused t ≡ field s at tag allowed body
    unfolding field
    body_refused t h = rw (← e, ← h)

    pub body_accepted : (a : A) → accepted a ≡ body (between s f.start f.end) f.start
        → accepted (record { value = a; start = f.start; next = f.end }) ≡ field s at tag allowed body
    unfolding field
    body_accepted a h = rw (← e, ← h)
