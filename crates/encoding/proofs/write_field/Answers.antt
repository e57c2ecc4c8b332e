-- `encoding::write_field` meets its contract. Assumes nothing.
use Rattle.std.proofs.Common.{◌≡◌, ◌*◌, ◌<◌, ℕ, List, [], ◌∷◌, arith, length, take, length-append}
use Rattle.std.proofs.Math.Seq.{take-length}
use Rattle.std.proofs.lemmas.List.{take_more, flat_map_more}
use Rattle.std.proofs.lemmas.List.Folds.{length-flat_map-take}
use Rattle.std.specs.List.{flat_map}
use Rattle.layout.specs.Layout.{field_bytes}
use Rattle.buffer.proofs.Appending.{appends_then}
use Rattle.encoding.proofs.write_field.Goals as goal

-- numbers of one size take so many bytes
length_body : {X : Type 0} (f : X → List ℕ) (size : ℕ) → ((x : X) → length (f x) ≡ size) → (xs : List X) → length (flat_map f xs) ≡ size * length xs
length_body f size same [] = omega arith
length_body f size same (x ∷ xs) = simp length-append (omega (arith, same x, length_body f size same xs))

pub write-requires-in-loop-number : goal.write-requires-in-loop-number
unfolding field_bytes
write-requires-in-loop-number g c =
    let item = c.number-item in
    let size = length_body g.T.FieldNumber.bytes_of g.T.FieldNumber.SIZE g.met.T.FieldNumber.size_of c.args.numbers.now in
    let more = length-flat_map-take g.T.FieldNumber.bytes_of c.args.numbers.now c.loop-number.number-index item.result (omega arith) in
    omega (arith, size, c.requires.room, rw (← item.is) at more)

pub loop-number-preserved : goal.loop-number-preserved
loop-number-preserved g c =
    let item = c.number-item in
    let i = c.loop-number.number-index in
    let l : i < length c.args.numbers.now = omega arith in
    rw (take_more c.args.numbers.now i item.result l, ← item.is, ← flat_map_more g.T.FieldNumber.bytes_of [] (take i c.args.numbers.now) item.result)
    (appends_then c.loop-number.invariant c.write-in-loop-number.ensures)

pub returns : goal.returns
unfolding field_bytes
returns g c =
    let done : c.loop-number.number-index ≡ length c.args.numbers.now = omega arith in
    let body = rw (done, take-length) at c.loop-number.invariant in
    let size = length_body g.T.FieldNumber.bytes_of g.T.FieldNumber.SIZE g.met.T.FieldNumber.size_of c.args.numbers.now in
    rw size (rw c.SIZE.ensures at (appends_then (appends_then c.write.ensures c.write-2.ensures) body))
