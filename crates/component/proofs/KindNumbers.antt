-- The numbers of the kinds. Assumes nothing.
use Rattle.std.proofs.Common.{◌≡◌, ◌≤◌, true, arith, refl}
use Rattle.grid.specs.Axis.{◌to◌, within}
use Rattle.component.specs.Answers.{number_of}
use Rattle.component.specs.declared.Kind.{Kind}
use Rattle.component.specs.declared.Kind.TheVariants.{Standard, Measured, HalfShafts}

pub kind_within : (kind : Kind) → within (1 to 3) (number_of kind) ≡ true
unfolding within
kind_within Standard = refl
kind_within Measured = refl
kind_within HalfShafts = refl

-- a kind that is not standard is measured
pub not_standard : (kind : Kind) → (kind ≡ Standard → ⊥) → 2 ≤ number_of kind
not_standard Standard f = absurd (f refl)
not_standard Measured f = omega arith
not_standard HalfShafts f = omega arith

-- with one output sensor or with one on each half shaft
pub one_output : (kind : Kind) → 2 ≤ number_of kind → (kind ≡ HalfShafts → ⊥) → number_of kind ≡ 2
one_output Standard h f = absurd (omega arith)
one_output Measured h f = refl
one_output HalfShafts h f = absurd (f refl)
