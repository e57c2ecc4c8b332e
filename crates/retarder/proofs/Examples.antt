-- Cases of C-17 that are reckoned by hand, shown of the definitions, so that the laws are not empty. Assumes nothing.
use Rattle.std.proofs.Common.{◌≡◌, refl, [], ◌∷◌}
use Rattle.arith.specs.Quotient.{quotient_up}
use Rattle.arith.specs.Fraction.{◌less◌over◌, ◌over◌, whole, ◌⊕◌, ◌⊗◌, round_up}
use Rattle.refusal.specs.Outcome.{accepted, refuse}
use Rattle.grid.specs.Every.{every}
use Rattle.cell.specs.Cell.{share}
use Rattle.lookup.specs.Loss.{last_up_to, neighbour}
use Rattle.retarder.specs.Drag.{exact_drag, drag_at, drag_answer}

-- 1033 and a fifth, at 266.6 rpm
rounded_up : drag_answer (1000 ∷ 1500 ∷ []) (100 ∷ 200 ∷ []) 1333 2000 ≡ accepted 1034
unfolding drag_answer drag_at exact_drag share neighbour last_up_to every ◌less◌over◌ ◌over◌ whole ◌⊕◌ ◌⊗◌ round_up quotient_up
rounded_up = refl

-- all thirteen readings: a quarter of the way from 4500 to 5000 rpm
last_segment : drag_answer (0 ∷ 0 ∷ 0 ∷ 0 ∷ 0 ∷ 0 ∷ 0 ∷ 0 ∷ 0 ∷ 0 ∷ 0 ∷ 400 ∷ 0 ∷ []) (0 ∷ 0 ∷ 0 ∷ 0 ∷ 0 ∷ 0 ∷ 0 ∷ 0 ∷ 0 ∷ 0 ∷ 0 ∷ 0 ∷ 0 ∷ []) 1000 46250 ≡ accepted 300
unfolding drag_answer drag_at exact_drag share neighbour last_up_to every ◌less◌over◌ ◌over◌ whole ◌⊕◌ ◌⊗◌ round_up quotient_up
last_segment = refl

-- at the last of four speed points
at_900_rpm : drag_answer (0 ∷ 0 ∷ 0 ∷ 7 ∷ []) (0 ∷ 0 ∷ 0 ∷ 0 ∷ []) 1000 9000 ≡ accepted 7
unfolding drag_answer drag_at exact_drag share neighbour last_up_to every ◌less◌over◌ ◌over◌ whole ◌⊕◌ ◌⊗◌ round_up quotient_up
at_900_rpm = refl

-- 199.9998 rpm
below_the_first_point : drag_answer (1000 ∷ 1500 ∷ []) (100 ∷ 200 ∷ []) 999 2002 ≡ refuse 47 0
unfolding drag_answer every
below_the_first_point = refl
