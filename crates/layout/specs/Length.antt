-- How long component data is, and which of its bytes decide. Document 01, "The map program": the first 32,768 bytes are read. The longest valid data is of kind 3 (document 02, C-11).
use Rattle.std.specs.Prelude.{ℕ, ◌≤◌, ◌<◌, ◌≡◌, List, ◌++◌, length, take}
use Rattle.refusal.specs.Outcome.{accepted, refuse}
use Rattle.component.specs.Component.{Component, component}
use Rattle.layout.specs.Rules.{AreBytes}

-- the length of the longest data that is accepted
abbrev pub longest : ℕ
longest = 24853

-- nothing longer is accepted
abbrev pub NoneLonger : Type 0
NoneLonger = (bytes : List ℕ) (c : Component) → AreBytes bytes → component bytes ≡ accepted c → length bytes ≤ longest

-- the first bytes decide, where they are more than the longest data has: a reader that stops there loses nothing
abbrev pub BeginningDecides : Type 0
BeginningDecides = (bytes : List ℕ) (limit : ℕ) → AreBytes bytes → longest < limit → component (take limit bytes) ≡ component bytes

-- accepted data with anything after it is refused with 12 at its end
abbrev pub RefusedWithMore : Type 0
RefusedWithMore = (bytes more : List ℕ) (c : Component) → AreBytes bytes → component bytes ≡ accepted c → 0 < length more → component (bytes ++ more) ≡ refuse 12 (length bytes)

-- so no accepted data is the beginning of longer accepted data: what is left of a file that was cut short is not accepted
abbrev pub NotCutShort : Type 0
NotCutShort = (bytes : List ℕ) (c d : Component) (n : ℕ) → AreBytes bytes → component bytes ≡ accepted c → n < length bytes → component (take n bytes) ≡ accepted d → ⊥
