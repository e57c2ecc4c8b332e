-- Where a line ends. Assumes nothing.
use Rattle.std.proofs.Common.{ℕ, ◌+◌, ◌<◌, ◌≡◌, ◌∙◌, refl, sym, ap, subst, arith, List, [], ◌∷◌, ◌++◌, All, length, get_or, take, drop}
use Rattle.std.specs.Prelude.{◌≢◌}
use Rattle.std.proofs.lemmas.Bool.{cond-false, ne_eqb}
use Rattle.std.proofs.lemmas.List.{take-append-drop, get_or-take, drop_more, length-take-le}
use Rattle.std.proofs.lemmas.List.Elements.{All-head, All-tail, All-from_get_or}
use Rattle.std.specs.Prelude.{None}
use Rattle.listing_lines.specs.Lines.{ended_line, open_line, with_byte, lines}
use Rattle.listing_lines.specs.Answers.{FirstLine}

-- the byte is no line feed
abbrev pub IsNoFeed : ℕ → Type 0
IsNoFeed byte = byte ≢ 10

pub first_is_ended : (line later : List ℕ) → All IsNoFeed line → lines (line ++ 10 ∷ later) ≡ ended_line line ∷ lines later
unfolding lines with_byte
first_is_ended [] later none = refl
first_is_ended (byte ∷ line) later none =
    cond-false _ _ _ (ne_eqb byte 10 (All-head IsNoFeed byte line none)) ∙ ap (with_byte byte) (first_is_ended line later (All-tail IsNoFeed byte line none))

pub only_is_open : (byte : ℕ) (line : List ℕ) → All IsNoFeed (byte ∷ line) → lines (byte ∷ line) ≡ open_line (byte ∷ line) ∷ []
unfolding lines with_byte
only_is_open byte [] none = cond-false _ _ _ (ne_eqb byte 10 (All-head IsNoFeed byte [] none))
only_is_open byte (next ∷ line) none =
    cond-false _ _ _ (ne_eqb byte 10 (All-head IsNoFeed byte (next ∷ line) none)) ∙ ap (with_byte byte) (only_is_open next line (All-tail IsNoFeed byte (next ∷ line) none))

-- the same, by the place of the first line feed
pub first_ends_at : (text : List ℕ) (end : ℕ) → end < length text → get_or text end 0 ≡ 10 → ((k : ℕ) → k < end → get_or text k 0 ≢ 10)
    → lines text ≡ ended_line (take end text) ∷ lines (drop (end + 1) text)
first_ends_at text end inside here before =
    let parts : text ≡ take end text ++ 10 ∷ drop (end + 1) text =
    sym (take-append-drop end text) ∙ ap (λ l. take end text ++ l) (drop_more text end 0 inside ∙ ap (λ b. b ∷ drop (end + 1) text) here) in
    let none : All IsNoFeed (take end text) =
    All-from_get_or IsNoFeed (take end text) 0 (λ k l. let below : k < end = omega (arith, length-take-le end text (omega arith)) in subst IsNoFeed (sym (get_or-take end text k 0 below)) (before k below)) in
    ap lines parts ∙ first_is_ended _ _ none

-- and where there is none
pub none_ends : (text : List ℕ) → ((k : ℕ) → k < length text → get_or text k 0 ≢ 10) → FirstLine text None
none_ends [] none = tt
none_ends (byte ∷ line) none = only_is_open byte line (All-from_get_or IsNoFeed (byte ∷ line) 0 none)
