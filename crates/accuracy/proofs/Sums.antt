-- The weighted sum at a cell's corners as whole numbers: of entries, of fractions over one denominator, and an answer beside it. Assumes nothing.
use Prim.Native.Nat.{ℕ, ◌+◌, ◌*◌, ◌≤◌, ◌<◌}
use mathlib.Core.Path.{◌≡◌}
use mathlib.Core.List.{List}
use native.Mathlib.Omega.{arith}
use native.Mathlib.Nat.{mul-pos}
use Rattle.arith.specs.Fraction.{Fraction, whole, ◌⊗◌}
use Rattle.arith.proofs.Fractions.{Is, is_itself, is_whole, is_also, is_expanded, is_sum, is_product}
use Rattle.cell.specs.Cell.{Cell, Has, Side, lower, upper, Corners, weight, sum, corners}
use Rattle.cell.specs.declared.Point.{Point}
use Rattle.lookup.proofs.Axes.{RisingAxes}
use Rattle.accuracy.specs.Claim.{entry_sum}
use Rattle.accuracy.proofs.Weights.{total, area, weight_for, weight_against, area_positive, weight_is}

-- ---- sums over the four corners

pub total_at_most : (f g : Corners ℕ) → ((s t : Side) → f s t ≤ g s t) → total f ≤ total g
total_at_most f g h = omega (arith, h lower lower, h lower upper, h upper lower, h upper upper)

pub total_times : (f : Corners ℕ) (n : ℕ) → total f * n ≡ total (λ s t. f s t * n)
total_times f n = omega arith

-- ---- four fractions over one denominator

pub common_den : Corners Fraction → ℕ
common_den f = (f lower lower).den * (f lower upper).den * (f upper lower).den * (f upper upper).den

-- the denominators of the other three
other_dens : Corners Fraction → Corners ℕ
other_dens f lower lower = (f lower upper).den * (f upper lower).den * (f upper upper).den
other_dens f lower upper = (f lower lower).den * (f upper lower).den * (f upper upper).den
other_dens f upper lower = (f lower lower).den * (f lower upper).den * (f upper upper).den
other_dens f upper upper = (f lower lower).den * (f lower upper).den * (f upper lower).den

pub common_positive : (f : Corners Fraction) → 0 < common_den f
unfolding common_den
common_positive f = mul-pos (mul-pos (mul-pos (f lower lower).above (f lower upper).above) (f upper lower).above) (f upper upper).above

common_expands : (f : Corners Fraction) (s t : Side) → common_den f ≡ (f s t).den * other_dens f s t
unfolding common_den other_dens
common_expands f lower lower = omega arith
common_expands f lower upper = omega arith
common_expands f upper lower = omega arith
common_expands f upper upper = omega arith

pub plus_over : Corners Fraction → Corners ℕ
plus_over f s t = (f s t).plus * other_dens f s t

pub minus_over : Corners Fraction → Corners ℕ
minus_over f s t = (f s t).minus * other_dens f s t

pub is_over_common : (f : Corners Fraction) (s t : Side) → Is (f s t) (plus_over f s t) (minus_over f s t) (common_den f)
unfolding plus_over minus_over
is_over_common f s t = is_expanded (other_dens f s t) (common_den f) (common_positive f) (common_expands f s t) (is_itself (f s t))

-- ---- the sums

-- the sum of four numbers p s t - m s t, each times its weight: what counts for it, and what counts against it
unfoldable pub sum_for : (speeds torques : List ℕ) → Point → Cell → (p m : Corners ℕ) → ℕ
sum_for speeds torques q k p m = total (λ s t. weight_for speeds torques q k s t * p s t + weight_against speeds torques q k s t * m s t)

module _ {speeds torques : List ℕ} {p : Point} {k : Cell} (rules : RisingAxes speeds torques) (has : Has speeds torques p k) where
  -- of any four fractions that have one denominator
  pub sum_is : (f : Corners Fraction) (a b : Corners ℕ) (d : ℕ) → ((s t : Side) → Is (f s t) (a s t) (b s t) d) →
      Is (sum speeds torques p k f) (sum_for speeds torques p k a b) (sum_for speeds torques p k b a) (area speeds torques k * d)
  unfolding sum sum_for
  sum_is f a b d is = is_sum (is_sum (is_sum (term lower lower) (term lower upper)) (term upper lower)) (term upper upper)
    where
      term : (s t : Side) →
          Is (weight speeds torques p k s t ⊗ f s t) (weight_for speeds torques p k s t * a s t + weight_against speeds torques p k s t * b s t)
          (weight_for speeds torques p k s t * b s t + weight_against speeds torques p k s t * a s t) (area speeds torques k * d)
      term s t = is_product (weight_is rules has s t) (is s t)

  -- of the entries
  pub entries_is : (entry : ℕ → ℕ → ℕ) →
      Is (entry_sum speeds torques entry p k) (total (λ s t. weight_for speeds torques p k s t * corners entry k s t)) (total (λ s t. weight_against speeds torques p k s t * corners entry k s t)) (area speeds torques k)
  unfolding sum corners
  entries_is entry = is_sum (is_sum (is_sum (term lower lower) (term lower upper)) (term upper lower)) (term upper upper)
    where
      term : (s t : Side) →
          Is (weight speeds torques p k s t ⊗ whole (corners entry k s t)) (weight_for speeds torques p k s t * corners entry k s t) (weight_against speeds torques p k s t * corners entry k s t) (area speeds torques k)
      term s t = is_also _ _ (area speeds torques k) (area_positive rules has) (omega arith) (is_product (weight_is rules has s t) (is_whole (corners entry k s t)))
