-- Queries of document 01, "Reckoned by hand" and "Wrong turns", shown of the definitions. Assumes nothing.
use Prim.Native.Nat.{ℕ}
use mathlib.Core.Path.{◌≡◌, refl}
use mathlib.Core.List.{List, [], ◌∷◌}
use lib.IntN.{ℤ, pos, negsuc}
use Rattle.arith.specs.Quotient.{quotient_up, quotient_down}
use Rattle.arith.specs.Fraction.{◌less◌over◌, ◌over◌, whole, ◌⊕◌, ◌⊗◌}
use Rattle.refusal.specs.Outcome.{Outcome, accepted, refuse}
use Rattle.grid.specs.Every.{every}
use Rattle.grid.specs.Axis.{within, rises, first_step, valid_numbers}
use Rattle.grid.specs.Map.{valid_speeds, valid_torques, valid_grid, valid_entries, valid_map}
use Rattle.grid.specs.Parts.{grid_of}
use Rattle.grid.specs.declared.Grid.{Grid}
use Rattle.cell.specs.Cell.{share, weight, sum, index, corners}
use Rattle.cell.specs.declared.Point.{Point}
use Rattle.lookup.specs.Loss.{last_up_to, neighbour, cell_of, loss_at, loss_answer}
use Rattle.cell.specs.Rounding.{ceiling}
use Rattle.lookup.specs.Nearest.{GridPoint, nearest_index, nearest_number, nearest_answer}

-- speeds 100 and 200, and two torques
grid_with : ℕ → ℕ → Grid
grid_with first second = grid_of (100 ∷ 200 ∷ []) 2 (first ∷ second ∷ []) 2

-- a query's point: tenths of rpm, hundredths of Nm
point : ℕ → ℕ → Point
point speed torque = record { speed = speed; torque = torque }

-- a grid point: rpm, Nm
grid_point : ℕ → ℕ → GridPoint
grid_point speed torque = record { speed = speed; torque = torque }

data Example : Type 0 where
  loss_of : Grid → List ℕ → Point → Outcome ℤ → Example
  nearest_of : Grid → Point → Outcome GridPoint → Example

Holds : Example → Type 0
Holds (loss_of grid entries p answer) = loss_answer grid entries p ≡ answer
Holds (nearest_of grid p answer) = nearest_answer grid p ≡ answer

Hold : List Example → Type 0
Hold [] = Unit
Hold (e ∷ es) = Holds e × Hold es

examples : List Example
examples =
    nearest_of (grid_with 10 1000) (point 0 4000000) (accepted (grid_point 100 1000))
    -- minus half a hundredth, and minus one and a half
    ∷ loss_of (grid_with 10 20) (0 ∷ 1 ∷ 0 ∷ 1 ∷ []) (point 1500 500) (accepted (pos 0))
    ∷ loss_of (grid_with 10 20) (0 ∷ 3 ∷ 0 ∷ 3 ∷ []) (point 1500 500) (accepted (negsuc 0))
    -- rounded once per axis it would be 2
    ∷ loss_of (grid_with 0 10) (0 ∷ 1 ∷ 1 ∷ 2 ∷ []) (point 1500 500) (accepted (pos 1))
    -- 22 before 20, and 20 before 21
    ∷ loss_of (grid_with 11 21) (0 ∷ 1 ∷ 0 ∷ 1 ∷ []) (point 2001 2101) (refuse 22 0)
    ∷ loss_of (grid_with 10 20) (0 ∷ 1 ∷ 0 ∷ 1 ∷ []) (point 2001 2001) (refuse 20 0)
    ∷ loss_of (grid_with 10 20) (0 ∷ 1 ∷ 0 ∷ 1 ∷ []) (point 2000 2001) (refuse 21 0)
    ∷ nearest_of (grid_with 11 21) (point 1500 0) (refuse 22 0)
    ∷ []

hold : Hold examples
unfolding Hold Holds examples grid_with point grid_point loss_answer loss_at cell_of neighbour last_up_to ceiling sum weight share corners index nearest_answer nearest_number nearest_index valid_map valid_entries valid_grid valid_speeds valid_torques valid_numbers first_step within rises every ◌less◌over◌ ◌over◌ whole ◌⊕◌ ◌⊗◌ quotient_up quotient_down
hold = (refl, (refl, (refl, (refl, (refl, (refl, (refl, (refl, tt))))))))
