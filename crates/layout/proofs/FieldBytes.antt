-- Numbers as bytes and back, and the bytes of a field that stands at a place. Assumes nothing.
use Prim.Native.Nat.{ℕ, suc, ◌+◌, ◌-◌, ◌*◌, ◌/◌, ◌%◌, ◌≤◌, ◌<◌}
use mathlib.Core.Path.{◌≡◌, refl, sym, ap, ◌∙◌}
use mathlib.Core.Bool.{Bool, true}
use mathlib.Core.List.{List, [], ◌∷◌, ◌++◌}
use native.Mathlib.Omega.{arith}
use native.Mathlib.Numerals.{add-one, add-two, add-three}
use lib.ListN.{length, get_or, drop, length-append, length-take, length-drop, take-append-drop}
use lib.Seq.{take-append_seam, drop-append_seam, drop-cons, drop-drop, get_or-take, get_or-drop}
use Rattle.fields.specs.Bytes.{number_of, pairs, between}
use Rattle.layout.specs.Layout.{two_bytes, four_bytes, encoded, number_bytes, torque_bytes, torques_in, field_bytes}
use Rattle.layout.specs.Rules.{AreBytes}
use Rattle.layout.specs.Faults.{Stands, length_at}

-- ---- numbers of two bytes

pub two_bytes_of : (high low : ℕ) → low < 256 → two_bytes (high * 256 + low) ≡ high ∷ low ∷ []
two_bytes_of high low h =
    let d : (high * 256 + low) / 256 ≡ high = omega arith in
    let m : (high * 256 + low) % 256 ≡ low = omega arith in
    rw (d, m)

pub number_of_one : (n : ℕ) → number_of (n ∷ []) ≡ n
number_of_one n = omega arith

pub number_of_two : (n : ℕ) → number_of (two_bytes n) ≡ n
number_of_two n = omega arith

-- as many bytes as there are numbers, each with so many
length_encoded : (bytes_of : ℕ → List ℕ) (size : ℕ) → ((n : ℕ) → length (bytes_of n) ≡ size) → (ns : List ℕ) → length (encoded bytes_of ns) ≡ size * length ns
unfolding encoded
length_encoded bytes_of size same [] = omega arith
length_encoded bytes_of size same (n ∷ ns) = simp length-append (omega (arith, same n, length_encoded bytes_of size same ns))

pub length_number_bytes : (ns : List ℕ) → length (number_bytes ns) ≡ 2 * length ns
length_number_bytes ns = length_encoded two_bytes 2 (λ n. refl) ns

-- bytes and numbers say the same, both ways
pub pairs_number_bytes : (ns : List ℕ) → pairs (number_bytes ns) ≡ ns
unfolding encoded pairs
pairs_number_bytes [] = refl
pairs_number_bytes (n ∷ ns) =
    let e : n / 256 * 256 + n % 256 ≡ n = omega arith in
    rw (e, pairs_number_bytes ns)

pub number_bytes_pairs : (bytes : List ℕ) → AreBytes bytes → length bytes % 2 ≡ 0 → number_bytes (pairs bytes) ≡ bytes
unfolding encoded pairs
number_bytes_pairs [] b h = refl
number_bytes_pairs (high ∷ []) b h = absurd (omega arith)
number_bytes_pairs (high ∷ low ∷ bytes) b h =
    let e : length bytes % 2 ≡ 0 = omega arith in
    let d : (high * 256 + low) / 256 ≡ high = omega (arith, b 1 (omega arith)) in
    let m : (high * 256 + low) % 256 ≡ low = omega (arith, b 1 (omega arith)) in
    rw (d, m, number_bytes_pairs bytes (λ i l. b (suc (suc i)) (omega arith)) e)

pub number_bytes_one : (bytes : List ℕ) → length bytes ≡ 1 → bytes ≡ number_of bytes ∷ []
number_bytes_one [] h = absurd (omega arith)
number_bytes_one (a ∷ []) h = rw (number_of_one a)
number_bytes_one (a ∷ b ∷ s) h = absurd (omega arith)

pub number_bytes_two : (bytes : List ℕ) → AreBytes bytes → length bytes ≡ 2 → bytes ≡ two_bytes (number_of bytes)
number_bytes_two [] b h = absurd (omega arith)
number_bytes_two (high ∷ []) b h = absurd (omega arith)
number_bytes_two (high ∷ low ∷ []) b h =
    let e : number_of (high ∷ low ∷ []) ≡ high * 256 + low = omega arith in
    rw e (sym (two_bytes_of high low (b 1 (omega arith))))
number_bytes_two (a ∷ b ∷ d ∷ s) h k = absurd (omega arith)

-- ---- torques of four bytes

number_of_four : (n : ℕ) → number_of (four_bytes n) ≡ n
number_of_four n = omega arith

pub length_torque_bytes : (torques : List ℕ) → length (torque_bytes torques) ≡ 4 * length torques
length_torque_bytes torques = length_encoded four_bytes 4 (λ n. refl) torques

-- bytes and torques say the same, both ways
pub torques_in_bytes : (torques : List ℕ) → torques_in (torque_bytes torques) ≡ torques
unfolding encoded torques_in
torques_in_bytes [] = refl
torques_in_bytes (torque ∷ torques) = rw (number_of_four torque, torques_in_bytes torques)

pub torque_bytes_back : (bytes : List ℕ) → AreBytes bytes → length bytes % 4 ≡ 0 → torque_bytes (torques_in bytes) ≡ bytes
unfolding encoded torques_in
torque_bytes_back [] are h = refl
torque_bytes_back (a ∷ []) are h = absurd (omega arith)
torque_bytes_back (a ∷ b ∷ []) are h = absurd (omega arith)
torque_bytes_back (a ∷ b ∷ c ∷ []) are h = absurd (omega arith)
torque_bytes_back (a ∷ b ∷ c ∷ d ∷ bytes) are h =
    let rest : length bytes % 4 ≡ 0 = omega arith in
    let hb = are 1 (omega arith) in
    let hc = are 2 (omega arith) in
    let hd = are 3 (omega arith) in
    let n = number_of (a ∷ b ∷ c ∷ d ∷ []) in
    let first : n / 16777216 ≡ a = omega arith in
    let second : n / 65536 % 256 ≡ b = omega arith in
    let third : n / 256 % 256 ≡ c = omega arith in
    let fourth : n % 256 ≡ d = omega arith in
    rw (first, second, third, fourth, torque_bytes_back bytes (λ i l. are (suc (suc (suc (suc i)))) (omega arith)) rest)

-- a part of bytes is bytes
pub between_bytes : (bytes : List ℕ) (start end : ℕ) → AreBytes bytes → AreBytes (between bytes start end)
between_bytes bytes start end b i h =
    let l : i < end - start = omega (arith, length-take (end - start) (drop start bytes), length-drop start bytes) in
    let k : start + i < length bytes = omega (arith, length-take (end - start) (drop start bytes), length-drop start bytes) in
    rw (get_or-take (end - start) (drop start bytes) i 0 l, get_or-drop start bytes i 0) (b (start + i) k)

-- ---- the bytes of a head
module _ (bytes : List ℕ) (at : ℕ) (complete : at + 3 ≤ length bytes) where
  pub three_bytes : drop at bytes ≡ get_or bytes at 0 ∷ get_or bytes (at + 1) 0 ∷ get_or bytes (at + 2) 0 ∷ drop (at + 3) bytes
  three_bytes =
      let h0 : at < length bytes = omega arith in
      let h1 : suc at < length bytes = omega arith in
      let h2 : suc (suc at) < length bytes = omega arith in
      rw (add-one at, add-two at, add-three at)
      (drop-cons bytes at 0 h0 ∙ ap (λ (s : List ℕ). get_or bytes at 0 ∷ s) (drop-cons bytes (suc at) 0 h1 ∙ ap (λ (s : List ℕ). get_or bytes (suc at) 0 ∷ s) (drop-cons bytes (suc (suc at)) 0 h2)))

  pub length_said : number_of (between bytes (at + 1) (at + 3)) ≡ length_at bytes at
  length_said =
      let two : at + 3 - (at + 1) ≡ 2 = omega arith in
      rw (two, ← drop-drop 1 at bytes, three_bytes) (omega arith)

-- ---- a field that stands at a place
pub length_field_bytes : (tag : ℕ) (body : List ℕ) → length (field_bytes tag body) ≡ 3 + length body
unfolding field_bytes
length_field_bytes tag body = omega arith

module _ (bytes : List ℕ) (at tag : ℕ) (allowed : ℕ → Bool) (body : List ℕ) where
  -- the bytes from there on begin with it
  pub from_field : (next : ℕ) → at + 3 + length body ≡ next → Stands bytes at tag allowed body → drop at bytes ≡ field_bytes tag body ++ drop next bytes
  from_field next e s =
      let d : at + (at + 3 + length body - at) ≡ next = omega arith in
      sym (take-append-drop (at + 3 + length body - at) (drop at bytes)) ∙ rw (s.there, drop-drop, d)

  module _ (rest : List ℕ) (here : drop at bytes ≡ field_bytes tag body ++ rest) where
    long : length bytes ≡ at + 3 + length body + length rest
    long =
        omega (arith, length-drop at bytes, ap length here, length-append (field_bytes tag body) rest, length_field_bytes tag body)

    -- and the other way round
    pub field_stands : allowed (length body) ≡ true → Stands bytes at tag allowed body
    field_stands fits =
        let n : at + 3 + length body - at ≡ length (field_bytes tag body) = omega (arith, length_field_bytes tag body) in
        record { ends = omega (arith, long); there = rw (n, here) (take-append_seam (field_bytes tag body) rest); fits = fits }

    pub after_field : (next : ℕ) → at + 3 + length body ≡ next → drop next bytes ≡ rest
    after_field next e =
        let n : next ≡ at + length (field_bytes tag body) = omega (arith, length_field_bytes tag body) in
        rw (n, ← drop-drop, here) (drop-append_seam (field_bytes tag body) rest)
