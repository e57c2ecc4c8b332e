-- `lookup::lower_neighbour` meets its contract. Assumes nothing.
use Rattle.std.proofs.Common.{◌≡◌, ℕ, ◌+◌, ◌<◌, ◌≤◌, Bool, true, false, leb, min, List, length, get_or, refl, sym, ◌∙◌, arith}
use native.Mathlib.Decide.{dec_lt}
use borrow.Author.Tests.{leb-true, leb-false}
use Rattle.lookup.specs.Loss.{neighbour}
use Rattle.lookup.proofs.Axes.{Rising, rise_lt, neighbour_is}
use Rattle.lookup.proofs.lower_neighbour.Goals as goal

Passed : (ns : List ℕ) (most below i : ℕ) → Type 0
Passed ns most below i =
    (below < i)
    × ((k : ℕ) → 0 < k → k ≤ below → get_or ns k 0 ≤ most)
    × ((k : ℕ) → below < k → k < i → most < get_or ns k 0)

module _ (ns : List ℕ) (r : Rising ns) (most below i : ℕ) (l : i < length ns) (s : Passed ns most below i) where
  one_more : get_or ns i 0 ≤ most → below + 1 ≡ i
  unfolding Passed
  one_more h = go (dec_lt (below + 1) i)
    where
      go : Dec (below + 1 < i) → below + 1 ≡ i
      go (yes m) = absurd (omega (arith, h, s.2 (below + 1) (omega arith) m, rise_lt ns r (below + 1) i m l))
      go (no m) = omega (arith, s.0)

  counted : (t : Bool) → leb (get_or ns i 0) most ≡ t → Passed ns most (below + mir.Val.bool_byte t) (i + 1)
  unfolding Passed
  counted true e =
      let h = leb-true _ _ e in
      let j = one_more h in
      (omega (arith, s.0), λ k a b. grind (arith, s.1 k a), λ k a b. absurd (omega arith))
  counted false e =
      let h = leb-false _ _ e in
      (omega (arith, s.0), λ k a b. s.1 k a (omega arith), λ k a b. grind (arith, s.2 k (omega arith)))

-- where v is above all that 16 bits hold, each number is at or below both
found : (ns : List ℕ) (v most below i : ℕ) → Rising ns → ((k : ℕ) → k < length ns → get_or ns k 0 ≤ 65535) → most ≡ min v 65535 → Passed ns most below i → length ns ≤ i + 1 → i < length ns → below ≡ neighbour ns 1 v
unfolding Passed
found ns v most below i r fits e s a b =
    sym (neighbour_is ns 1 v below (omega (arith, s.0))
    (λ l. omega (arith, e, s.1 below l (omega arith)))
    (λ k h g. omega (arith, e, s.2 k h (omega arith), fits k (omega arith))))

pub loop-i-preserved : goal.loop-i-preserved
unfolding Passed
loop-i-preserved c =
    rw c.from-below.ensures (counted _ (record { two = c.requires.count.0; rises = c.requires.rising }) _ _ _ (omega (arith, c.loop-i-test.true)) c.loop-i.invariant _ refl)

pub returns : goal.returns
unfolding Passed
returns c =
    let axis : Rising c.args.numbers.now = record { two = c.requires.count.0; rises = c.requires.rising } in
    let fits : (k : ℕ) → k < length c.args.numbers.now → get_or c.args.numbers.now k 0 ≤ 65535 = λ k h. omega (arith, c.type_inv.numbers k) in
    c.from.ensures ∙ found _ _ _ _ _ axis fits c.min-most.ensures c.loop-i.invariant (omega (arith, c.loop-i-test.false)) (omega (arith, c.requires.count.0, c.loop-i.auto.i-end))
