-- Document 01, "Standard loss", with the table of Annex VII, Appendix 3. Assumes nothing.
use Rattle.std.specs.Prelude.{ℕ, ◌-◌, ◌≤◌, Bool, true, ◌&&◌, List, [], ◌∷◌, ◌≡◌, refl, leb, eqb, get_or}
use Rattle.grid.specs.Every.{every}
use Rattle.arith.specs.Fraction.{Fraction, ◌over◌, whole, ◌⊕◌, ◌⊗◌, round_up}
use Rattle.loss.specs.declared.Line.{Line}

-- a line: efficiency in %, T0 and T1 in Nm
abbrev pub line : ℕ → ℕ → ℕ → Line
line e t0 t1 = record { efficiency = e; t0 = t0; t1 = t1 }

-- SR, SRT, SP, HR, HRT
abbrev pub lines : List Line
lines =
    line 98 70 20
    ∷ line 96 80 20
    ∷ line 96 80 20
    ∷ line 97 70 20
    ∷ line 95 90 20
    ∷ []

-- What the table does not have: efficiency 100 and no drag, which is no loss at all. Component data never names it: tag 2 is 1 to 5.
abbrev pub no_line : Line
no_line = line 100 0 0

-- the line that tag 2 names by this number
abbrev pub line_of : ℕ → Line
line_of number = get_or (no_line ∷ lines) number no_line

-- "The table's facts", and that no T0 is above 90
pub record LineFacts (l : Line) : Type 0 where
  pub lowest : 95 ≤ l.efficiency
  pub highest : l.efficiency ≤ 98
  pub drag : l.t0 ≤ 90
  pub always : l.t1 ≡ 20

-- the same as a test, computed once over all five lines
abbrev pub line_holds : Line → Bool
line_holds l = leb 95 l.efficiency && (leb l.efficiency 98 && (leb l.t0 90 && eqb l.t1 20))

pub table_holds : every (λ i. line_holds (get_or lines i no_line)) 5 ≡ true
unfolding every
table_holds = refl

-- what the code's arithmetic needs of a line, with one or without
pub record Usable (l : Line) : Type 0 where
  pub least : 1 ≤ l.efficiency
  pub most : l.efficiency ≤ 100
  pub drag0 : l.t0 ≤ 90
  pub drag1 : l.t1 ≤ 20

-- the exact standard loss, in hundredths of Nm. The ratio is in thousandths, the torque in Nm.
unfoldable pub standard_loss : Line → (ratio torque : ℕ) → Fraction
standard_loss l ratio torque =
    let e = l.efficiency in
    whole 100 ⊗ (whole l.t0 ⊕ whole l.t1 ⊗ (ratio over 1000) ⊕ whole torque ⊗ (100 - e over e))

-- the standard entry: the loss rounded up
unfoldable pub standard_entry : (number ratio torque : ℕ) → ℕ
standard_entry number ratio torque = round_up (standard_loss (line_of number) ratio torque)
