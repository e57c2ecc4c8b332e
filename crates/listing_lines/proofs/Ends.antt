-- The bytes at the ends of a line that pass a test, and the first that does not. Assumes nothing.
use Rattle.std.proofs.Common.{ℕ, ◌+◌, ◌-◌, ◌≤◌, ◌<◌, ◌≡◌, Bool, true, false, arith, List, All, length, get_or, take, drop, reverse, get_or-take, get_or-drop, length-drop}
use Rattle.std.specs.List.{prefix_len, suffix_len}
use Rattle.std.proofs.lemmas.List.{get_or-reverse, length-reverse}
use Rattle.std.proofs.lemmas.List.Folds.{length-prefix_len}
use Rattle.std.proofs.lemmas.List.Sums.{prefix_len_passes, prefix_len_stops}

module _ (test : ℕ → Bool) (line : List ℕ) where
  -- those at its start pass
  pub start_passes : All (λ byte. test byte ≡ true) (take (prefix_len test line) line)
  start_passes = λ k d l.
      let count = prefix_len test line in
      let below : k < count = omega (arith, l, length-prefix_len test line) in
      rw (get_or-take count line k d below) (prefix_len_passes test line k d below)

  -- those at its end too
  from_end : (k d : ℕ) → length line - suffix_len test line ≤ k → k < length line → test (get_or line k d) ≡ true
  from_end k d h l =
      let here : k ≡ length line - 1 - (length line - 1 - k) = omega arith in
      let read = get_or-reverse line (length line - 1 - k) d (omega arith) in
      let passes = prefix_len_passes test (reverse line) (length line - 1 - k) d (omega arith) in
      rw here (rw read at passes)

  pub end_passes : All (λ byte. test byte ≡ true) (drop (length line - suffix_len test line) line)
  end_passes = λ k d l.
      let before = length line - suffix_len test line in
      rw (get_or-drop before line k d) (from_end (before + k) d (omega arith) (omega (arith, l, length-drop before line)))

  -- and the one before these does not
  pub end_stops : suffix_len test line < length line → test (get_or line (length line - suffix_len test line - 1) 0) ≡ false
  end_stops h =
      let count = suffix_len test line in
      let read = get_or-reverse line count 0 h in
      let here : length line - 1 - count ≡ length line - count - 1 = omega arith in
      rw (read, here) at (prefix_len_stops test (reverse line) 0 (omega (arith, h, length-reverse line)))
