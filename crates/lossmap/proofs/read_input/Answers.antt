-- What a read gives stands behind what was read before.
use Rattle.std.proofs.Common.{◌≡◌, ℕ, ◌+◌, ◌-◌, ◌≤◌, List, ◌++◌, length, take, sym, subst, rules, length-take-le}
use Rattle.std.proofs.lemmas.List.{take-append-le}
use Rattle.std.proofs.Math.Seq.{take-append-add}
use Rattle.std.proofs.KnownBytes.{Consumes-trans}
use Rattle.std.specs.Io.KnownBytes.{Consumes}
use borrow.Rule.Slice.PartMut.{put_mid}
use Rattle.lossmap.proofs.read_input.Goals as goal

-- up to the first n of what was put at a
take_more-put_mid : (a k n : ℕ) (xs ys : List ℕ) → a ≤ length xs → n ≤ length ys → take (a + n) (put_mid a k xs ys) ≡ take a xs ++ take n ys
take_more-put_mid a k n xs ys within fits = search (rules, take-append-add, take-append-le, length-take-le)

pub loop-length-preserved : goal.loop-length-preserved
loop-length-preserved g c =
    let joined = take_more-put_mid _ (length c.loop-length.room - c.loop-length.length) _ _ _ c.loop-length.invariant.within c.in_ok-count.ensures.bound.0 in
    record {
      within = search rules;
      consumed = subst (Consumes _ _) (sym joined) (Consumes-trans _ _ _ _ _ c.loop-length.invariant.consumed c.in_ok-count.ensures.bytes.0);
    }
