-- Two maps of the line SR at ratio 3.000, the weights of a point of each, its answer, and that answer's limits against fractions that lie anywhere on their sides. Assumes nothing.
use Prim.Native.Nat.{ℕ, zero, suc, ◌+◌, ◌<◌}
use mathlib.Core.Path.{◌≡◌, refl}
use mathlib.Core.Bool.{Bool, true, ◌&&◌}
use mathlib.Core.List.{List, [], ◌∷◌}
use mathlib.Core.Logic.{inl, inr}
use native.Mathlib.Omega.{arith}
use native.Mathlib.Bridge.{le_by_compare, IsLe}
use lib.Dec.{eqb}
use lib.IntN.{pos}
use lib.ListN.{get_or}
use Rattle.arith.specs.Quotient.{quotient_up}
use Rattle.arith.specs.Fraction.{Fraction, ◌less◌over◌, ◌over◌, whole, signed, ◌⊕◌, ◌⊖◌, ◌⊗◌, cleared, ◌≼◌, ◌≺◌, RoundsUp, round_up}
use Rattle.loss.specs.Standard.{line_of, standard_loss, standard_entry}
use Rattle.loss.specs.Exact.{Cut, cut, exact_standard}
use Rattle.loss.proofs.Cuts.{square_not_negative}
use Rattle.loss.proofs.Accuracy.{standard_at_or_below, standard_at_or_above, standard_entry_accurate}
use Rattle.cell.specs.Cell.{Cell, Has, Side, lower, upper, Corners, share, weight, sum, index, corners}
use Rattle.cell.specs.declared.Point.{Point}
use Rattle.lookup.proofs.Axes.{Rising, RisingAxes}
use Rattle.accuracy.specs.Claim.{EntriesAccurate, exact_corner, ChosenBelow, ChosenAbove, entry_sum, Held, figures_of}
use Rattle.accuracy.proofs.Limits.{limits}

-- ---- the maps

abbrev speeds : List ℕ
speeds = 100 ∷ 200 ∷ []

abbrev entry : List ℕ → ℕ → ℕ → ℕ
entry torques i j = standard_entry 1 3000 (get_or torques j 0)

abbrev exact : List ℕ → ℕ → ℕ → Cut
exact torques i j = cut (exact_standard 1 3000 (get_or torques j 0))

accurate : (torques : List ℕ) → EntriesAccurate 1 speeds torques (entry torques) (exact torques)
accurate torques i j _ _ = standard_entry_accurate 1 3000 (get_or torques j 0)

abbrev cell : Cell
cell = record { speed = 0; torque = 0 }

-- the exact losses at the corners of the cell: fractions on both sides of the exact entries
abbrev losses : List ℕ → Corners Fraction
losses torques s t = standard_loss (line_of 1) 3000 (get_or torques (index 0 t) 0)

losses_below : (torques : List ℕ) (p : Point) → ChosenBelow speeds torques (exact torques) p cell (losses torques)
losses_below torques p = record {
  positive = λ s t _. standard_at_or_below 1 3000 (get_or torques (index 0 t) 0);
  negative = λ s t _. standard_at_or_above 1 3000 (get_or torques (index 0 t) 0);
}

losses_above : (torques : List ℕ) (p : Point) → ChosenAbove speeds torques (exact torques) p cell (losses torques)
losses_above torques p = record {
  positive = λ s t _. standard_at_or_above 1 3000 (get_or torques (index 0 t) 0);
  negative = λ s t _. standard_at_or_below 1 3000 (get_or torques (index 0 t) 0);
}

rising_pair : (a b : ℕ) → a < b → Rising (a ∷ b ∷ [])
rising_pair a b h = record { two = omega arith; rises = go }
  where
    go : (i : ℕ) → i + 1 < 2 → get_or (a ∷ b ∷ []) i 0 < get_or (a ∷ b ∷ []) (i + 1) 0
    go zero l = h
    go (suc i) l = absurd (omega arith)

-- ---- torques 0 and 1,000 at 150.0 rpm and 250.00 Nm

abbrev from_zero : List ℕ
from_zero = 0 ∷ 1000 ∷ []

abbrev inside : Point
inside = record { speed = 1500; torque = 25000 }

inside_rules : RisingAxes speeds from_zero
inside_rules = record { speeds = rising_pair 100 200 (omega arith); torques = rising_pair 0 1000 (omega arith); step = omega arith }

inside_has : Has speeds from_zero inside cell
inside_has = record { speed_in = omega arith; torque_in = omega arith; from = omega arith; upto = omega arith; bottom = inl (omega arith); top = omega arith }

-- ---- torques 1,000 and 2,000 at 100.0 rpm and 0 Nm, below the first torque

abbrev from_thousand : List ℕ
from_thousand = 1000 ∷ 2000 ∷ []

abbrev under : Point
under = record { speed = 1000; torque = 0 }

under_rules : RisingAxes speeds from_thousand
under_rules = record { speeds = rising_pair 100 200 (omega arith); torques = rising_pair 1000 2000 (omega arith); step = omega arith }

under_has : Has speeds from_thousand under cell
under_has = record { speed_in = omega arith; torque_in = omega arith; from = omega arith; upto = omega arith; bottom = inr refl; top = omega arith }

-- ---- the weights

same : Fraction → Fraction → Bool
same x y = eqb (cleared x y) (cleared y x)

-- each computes to true
weights : List Bool
weights =
    same (weight speeds from_zero inside cell lower lower) (3 over 8)
    ∷ same (weight speeds from_zero inside cell lower upper) (1 over 8)
    ∷ same (weight speeds from_zero inside cell upper lower) (3 over 8)
    ∷ same (weight speeds from_zero inside cell upper upper) (1 over 8)
    ∷ same (weight speeds from_thousand under cell lower lower) (whole 2)
    ∷ same (weight speeds from_thousand under cell lower upper) (0 less 1 over 1)
    ∷ same (weight speeds from_thousand under cell upper lower) (whole 0)
    ∷ same (weight speeds from_thousand under cell upper upper) (whole 0)
    ∷ []

all_true : List Bool → Bool
all_true [] = true
all_true (b ∷ bs) = b && all_true bs

weights_hold : all_true weights ≡ true
unfolding all_true weights same weight share whole ◌over◌ ◌less◌over◌ ◌⊗◌
weights_hold = refl

-- ---- the answers: 13,511 and 13,000

inside_rounds : RoundsUp (entry_sum speeds from_zero (entry from_zero) inside cell) (pos 13511)
unfolding sum corners index weight share standard_entry standard_loss round_up quotient_up signed whole ◌over◌ ◌less◌over◌ ◌⊕◌ ◌⊗◌ ◌≼◌ ◌≺◌ IsLe
inside_rounds = record { not_below = le_by_compare _ _ tt; near = le_by_compare _ _ tt }

under_rounds : RoundsUp (entry_sum speeds from_thousand (entry from_thousand) under cell) (pos 13000)
unfolding sum corners index weight share standard_entry standard_loss round_up quotient_up signed whole ◌over◌ ◌less◌over◌ ◌⊕◌ ◌⊗◌ ◌≼◌ ◌≺◌ IsLe
under_rounds = record { not_below = le_by_compare _ _ tt; near = le_by_compare _ _ tt }

-- ---- their limits against the exact losses

inside_limits : Held (figures_of 1) speeds from_zero (entry from_zero) (exact from_zero) inside cell (pos 13511)
inside_limits = limits (entry from_zero) inside_rules (accurate from_zero) inside_has inside_rounds

under_limits : Held (figures_of 1) speeds from_thousand (entry from_thousand) (exact from_thousand) under cell (pos 13000)
under_limits = limits (entry from_thousand) under_rules (accurate from_thousand) under_has under_rounds

pub inside_worked : (sum speeds from_zero inside cell (losses from_zero) ≼ signed (pos 13511)) × (signed (pos 13511) ≺ sum speeds from_zero inside cell (losses from_zero) ⊕ whole 2)
inside_worked = (
  inside_limits.never_below (omega arith) (losses from_zero) (losses_below from_zero inside),
  inside_limits.not_far_above (omega arith) (losses from_zero) (losses_above from_zero inside),
)

pub under_worked : (sum speeds from_thousand under cell (losses from_thousand) ≺ signed (pos 13000) ⊕ whole 1) × (signed (pos 13000) ≺ sum speeds from_thousand under cell (losses from_thousand) ⊕ whole 3)
under_worked = (
  under_limits.not_far_below_first (omega arith) (losses from_thousand) (losses_below from_thousand under),
  under_limits.not_far_above_first (omega arith) (losses from_thousand) (losses_above from_thousand under),
)

-- ---- a choice lies anywhere on its side: at 0 Nm a hundredth below the exact loss where the weight is 2, a hundredth above it where it is minus 1, and 0 where it is 0

-- the exact loss with a hundredth taken from it, and with one added
abbrev hundredth_below : Side → Fraction
hundredth_below t = losses from_thousand lower t ⊖ whole 1

abbrev hundredth_above : Side → Fraction
hundredth_above t = losses from_thousand lower t ⊕ whole 1

abbrev below_choice : Corners Fraction
below_choice lower lower = hundredth_below lower
below_choice lower upper = hundredth_above upper
below_choice upper t = whole 0

abbrev above_choice : Corners Fraction
above_choice lower lower = hundredth_above lower
above_choice lower upper = hundredth_below upper
above_choice upper t = whole 0

pub strictly_below : (t : Side) → hundredth_below t ≺ losses from_thousand lower t
unfolding index standard_loss whole ◌over◌ ◌less◌over◌ ◌⊕◌ ◌⊖◌ ◌⊗◌ ◌≺◌ IsLe
strictly_below lower = le_by_compare _ _ tt
strictly_below upper = le_by_compare _ _ tt

pub strictly_above : (t : Side) → losses from_thousand lower t ≺ hundredth_above t
unfolding index standard_loss whole ◌over◌ ◌less◌over◌ ◌⊕◌ ◌⊖◌ ◌⊗◌ ◌≺◌ IsLe
strictly_above lower = le_by_compare _ _ tt
strictly_above upper = le_by_compare _ _ tt

at_most_of_below : (x y : Fraction) → x ≺ y → x ≼ y
unfolding ◌≼◌ ◌≺◌
at_most_of_below x y h = omega arith

-- each is on its side of the exact entry
at_or_below : (t : Side) → (exact from_thousand 0 (index 0 t)).AtOrBelow (hundredth_below t)
unfolding cut exact_standard
at_or_below t = inl (at_most_of_below _ _ (strictly_below t))

at_or_above : (t : Side) → (exact from_thousand 0 (index 0 t)).AtOrAbove (hundredth_above t)
unfolding cut exact_standard
at_or_above t = (at_most_of_below _ _ (strictly_above t), square_not_negative _)

-- the weights are 2, minus 1, 0 and 0: which of them are positive and which negative
weight_of : Corners Fraction
weight_of = weight speeds from_thousand under cell

not_negative : whole 0 ≺ weight_of lower upper → ⊥
unfolding weight_of weight share whole ◌over◌ ◌less◌over◌ ◌⊗◌ ◌≺◌
not_negative h = omega arith

not_positive : weight_of lower lower ≺ whole 0 → ⊥
unfolding weight_of weight share whole ◌over◌ ◌less◌over◌ ◌⊗◌ ◌≺◌
not_positive h = omega arith

no_weight : (t : Side) → (whole 0 ≺ weight_of upper t → ⊥) × (weight_of upper t ≺ whole 0 → ⊥)
unfolding weight_of weight share whole ◌over◌ ◌less◌over◌ ◌⊗◌ ◌≺◌
no_weight lower = (λ h. omega arith, λ h. omega arith)
no_weight upper = (λ h. omega arith, λ h. omega arith)

pub below_chosen : ChosenBelow speeds from_thousand (exact from_thousand) under cell below_choice
unfolding weight_of
below_chosen = record { positive = positive; negative = negative }
  where
    positive : (s t : Side) → whole 0 ≺ weight_of s t → (exact_corner (exact from_thousand) cell s t).AtOrBelow (below_choice s t)
    positive lower lower h = at_or_below lower
    positive lower upper h = absurd (not_negative h)
    positive upper t h = absurd ((no_weight t).0 h)

    negative : (s t : Side) → weight_of s t ≺ whole 0 → (exact_corner (exact from_thousand) cell s t).AtOrAbove (below_choice s t)
    negative lower lower h = absurd (not_positive h)
    negative lower upper h = at_or_above upper
    negative upper t h = absurd ((no_weight t).1 h)

pub above_chosen : ChosenAbove speeds from_thousand (exact from_thousand) under cell above_choice
unfolding weight_of
above_chosen = record { positive = positive; negative = negative }
  where
    positive : (s t : Side) → whole 0 ≺ weight_of s t → (exact_corner (exact from_thousand) cell s t).AtOrAbove (above_choice s t)
    positive lower lower h = at_or_above lower
    positive lower upper h = absurd (not_negative h)
    positive upper t h = absurd ((no_weight t).0 h)

    negative : (s t : Side) → weight_of s t ≺ whole 0 → (exact_corner (exact from_thousand) cell s t).AtOrBelow (above_choice s t)
    negative lower lower h = absurd (not_positive h)
    negative lower upper h = at_or_below upper
    negative upper t h = absurd ((no_weight t).1 h)

-- and the limits hold against them
pub chosen_worked : (sum speeds from_thousand under cell below_choice ≺ signed (pos 13000) ⊕ whole 1) × (signed (pos 13000) ≺ sum speeds from_thousand under cell above_choice ⊕ whole 3)
chosen_worked = (
  under_limits.not_far_below_first (omega arith) below_choice below_chosen,
  under_limits.not_far_above_first (omega arith) above_choice above_chosen,
)
