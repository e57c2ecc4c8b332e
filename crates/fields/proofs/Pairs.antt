-- The numbers of two bytes that bytes say: how many they are, which bytes each is made of, and the loop that writes them. Assumes nothing.
use Prim.Native.Nat.{ℕ, suc, ◌+◌, ◌*◌, ◌/◌}
use mathlib.Core.Path.{◌≡◌, refl, sym, ◌∙◌}
use mathlib.Core.List.{List, [], ◌∷◌, ◌++◌, map}
use native.Mathlib.Omega.{arith}
use lib.ListN.{length, get_or, take, drop}
use lib.Seq.{take_all}
use Rattle.std.proofs.lemmas.List.{take-append-drop}
use Rattle.std.specs.Simd.{first_chunks}
use Rattle.fields.specs.Bytes.{number_of, pairs}

pub length_pairs : (bytes : List ℕ) → length (pairs bytes) ≡ length bytes / 2
unfolding pairs
length_pairs [] = refl
length_pairs (high ∷ []) = refl
length_pairs (high ∷ low ∷ bytes) = omega (arith, length_pairs bytes)

-- the number of two bytes
abbrev pub pair_of : List ℕ → ℕ
pair_of bytes = get_or bytes 0 0 * 256 + get_or bytes 1 0

-- the numbers are those of the bytes, two by two
pub pairs_are : (bytes : List ℕ) → map pair_of (first_chunks 2 (length bytes / 2) bytes) ≡ pairs bytes
unfolding pairs
pairs_are [] = refl
pairs_are (high ∷ []) = refl
pairs_are (high ∷ low ∷ bytes) =
    let e : suc (suc (length bytes)) / 2 ≡ suc (length bytes / 2) = omega arith in
    rw (e, pairs_are bytes)

-- the loop that writes them, at its end: i of them are written, and what is lent past them is as it was
pub filled : (body before now : List ℕ) (chunks : List (List ℕ)) (i : ℕ) → chunks ≡ first_chunks 2 (length body / 2) body → length chunks ≡ length body / 2
    → i ≡ length chunks → take i now ≡ map pair_of (take i chunks) → drop i now ≡ drop i before → now ≡ pairs body ++ drop (length body / 2) before
filled body before now chunks i front long end written rest =
    let all : take i chunks ≡ chunks = take_all i chunks (omega arith) in
    let at : i ≡ length body / 2 = omega arith in
    let first : take i now ≡ pairs body = written ∙ rw (all, front) (pairs_are body) in
    sym (take-append-drop i now) ∙ rw (first, rest, at) refl

pub one_byte : (bytes : List ℕ) → length bytes ≡ 1 → number_of bytes ≡ get_or bytes 0 0
one_byte [] h = absurd (omega arith)
one_byte (a ∷ []) h = omega arith
one_byte (a ∷ b ∷ s) h = absurd (omega arith)

pub two_bytes_lem : (bytes : List ℕ) → length bytes ≡ 2 → number_of bytes ≡ get_or bytes 0 0 * 256 + get_or bytes 1 0
two_bytes_lem [] h = absurd (omega arith)
two_bytes_lem (a ∷ []) h = absurd (omega arith)
two_bytes_lem (a ∷ b ∷ []) h = omega arith
two_bytes_lem (a ∷ b ∷ d ∷ s) h = absurd (omega arith)
