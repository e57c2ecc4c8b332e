-- The answer that a cell names keeps its limits there, and from the first torque upwards it is between the cell's entries. Assumes nothing.
use Prim.Native.Nat.{ℕ, zero, suc, ◌+◌, ◌*◌, ◌≤◌, ◌<◌}
use mathlib.Core.Path.{◌≡◌, ap}
use mathlib.Core.List.{List}
use native.Mathlib.Omega.{arith}
use native.Mathlib.Nat.{le_of_mul-le-mul_right, lt_of_mul-lt-mul_right, mul-le-mul_left, mul-le-mul_right, mul-lt-mul_of_pos_right}
use lib.IntN.{ℤ}
use Rattle.arith.specs.Fraction.{Fraction, whole, signed, ◌≼◌, RoundsUp}
use Rattle.arith.proofs.Fractions.{is_whole, is_plus_whole, at_most, at_most_of, below, below_of}
use Rattle.loss.specs.Exact.{Cut, EntryAccurate}
use Rattle.cell.specs.Cell.{Cell, Has, Side, lower, upper, Corners, index, corners}
use Rattle.cell.specs.declared.Point.{Point}
use Rattle.lookup.proofs.Axes.{RisingAxes}
use Rattle.accuracy.specs.Claim.{EntriesAccurate, exact_corner, ChosenBelow, ChosenAbove, entry_sum, FromFirstTorque, BelowFirstTorque, Held, figures_of}
use Rattle.accuracy.proofs.Weights.{total, area, weight_for, weight_against, area_positive, positive_weight, negative_weight, total_for, none_against, some_against, most_against, none_against_at}
use Rattle.cell.proofs.Rounding.{up, down, is_signed, Rounded, rounded_of}
use Rattle.accuracy.proofs.Sums.{total_at_most, total_times, common_den, common_positive, plus_over, minus_over, is_over_common, sum_for, sum_is, entries_is}

-- ---- one corner: w counts for its weight and u against it, e is its entry, and its fraction is (a - b) / d

times_at_most : (w a b : ℕ) → (0 < w → a ≤ b) → w * a ≤ w * b
times_at_most zero a b h = omega arith
times_at_most (suc w) a b h = mul-le-mul_left (suc w) (h (omega arith))

times_below : (w a b : ℕ) → (0 < w → a < b) → w * a + w ≤ w * b
times_below zero a b h = omega arith
times_below (suc w) a b h = omega (arith, mul-le-mul_left (suc w) (h (omega arith)))

corner_low : (excess w u e a b d : ℕ) → (0 < w → a ≤ e * d + b) → (0 < u → e * d + b < a + excess * d) →
    w * a + u * b + u * e * d + u ≤ w * b + u * a + w * e * d + excess * (u * d)
corner_low excess w u e a b d h k = omega (arith, times_at_most w a (e * d + b) h, times_below u (e * d + b) (a + excess * d) k)

corner_high : (excess w u e a b d : ℕ) → (0 < w → e * d + b < a + excess * d) → (0 < u → a ≤ e * d + b) →
    w * b + u * a + w * e * d ≤ w * a + u * b + u * e * d + excess * (w * d)
corner_high excess w u e a b d h k = omega (arith, times_below w (e * d + b) (a + excess * d) h, times_at_most u a (e * d + b) k)

-- ---- the four corners: p - m is each term times A d, f - g each entry times its weight times A

total_excess : (excess : ℕ) (f : Corners ℕ) (d : ℕ) → excess * (total f * d) ≡ total (λ s t. excess * (f s t * d))
total_excess excess f d = omega arith

module _ (excess A d : ℕ) (z : ℤ) (p m f g : Corners ℕ) (r : Rounded (total f) (total g) A z) where
  not_below_times : (F G n u : ℕ) → F + n * A ≤ G + u * A → F * d + n * (A * d) ≤ G * d + u * (A * d)
  not_below_times F G n u h = omega (arith, mul-le-mul_right d h)

  near_times : (F G n u : ℕ) → 0 < d → G + u * A < F + n * A + A → G * d + u * (A * d) < F * d + n * (A * d) + A * d
  near_times F G n u l h = omega (arith, mul-lt-mul_of_pos_right h l)

  corners_low : (against : Corners ℕ) → ((s t : Side) → p s t + g s t * d + against s t ≤ m s t + f s t * d + excess * (against s t * d)) →
      total p + down z * (A * d) + total against ≤ total m + up z * (A * d) + excess * (total against * d)
  corners_low against h =
      rw total_excess
      (omega (
        arith,
        total_at_most (λ s t. p s t + g s t * d + against s t) (λ s t. m s t + f s t * d + excess * (against s t * d)) h,
        rw (total_times f d, total_times g d) at (not_below_times (total f) (total g) (down z) (up z) r.not_below),
      ))

  corners_high : (for : Corners ℕ) → 0 < d → ((s t : Side) → m s t + f s t * d ≤ p s t + g s t * d + excess * (for s t * d)) →
      total m + up z * (A * d) < total p + down z * (A * d) + A * d + excess * (total for * d)
  corners_high for l h =
      rw total_excess
      (omega (
        arith,
        total_at_most (λ s t. m s t + f s t * d) (λ s t. p s t + g s t * d + excess * (for s t * d)) h,
        rw (total_times f d, total_times g d) at (near_times (total f) (total g) (down z) (up z) l r.near),
      ))

-- ---- the corners are points of the grid

index_within : (i n : ℕ) → i + 1 < n → (s : Side) → index i s < n
unfolding index
index_within i n l lower = omega arith
index_within i n l upper = l

corner_accurate : {excess : ℕ} {speeds torques : List ℕ} {entry : ℕ → ℕ → ℕ} {exact : ℕ → ℕ → Cut} {p : Point} {k : Cell} →
    EntriesAccurate excess speeds torques entry exact → Has speeds torques p k → (s t : Side) → EntryAccurate excess (exact_corner exact k s t) (corners entry k s t)
unfolding corners
corner_accurate {k = k} accurate has s t =
    accurate (index k.speed s) (index k.torque t) (index_within k.speed _ has.speed_in s) (index_within k.torque _ has.torque_in t)

-- ---- a whole number beside an answer u - n, both times the area A; P is the sum of the entries times A

total_zero : (f : Corners ℕ) → ((s t : Side) → f s t ≡ 0) → total f ≡ 0
total_zero f h = omega (arith, h lower lower, h lower upper, h upper lower, h upper upper)

at_least_of_times : (A u n least P : ℕ) → 0 < A → least * A ≤ P → P + n * A ≤ u * A → least * 1 + n * 1 ≤ u * 1 + 0 * 1
at_least_of_times A u n least P h i j = let s : least + n ≤ u = le_of_mul-le-mul_right {k = A} (omega arith) h in omega arith

at_most_of_times : (A u n largest P : ℕ) → P ≤ largest * A → u * A < P + n * A + A → u * 1 + 0 * 1 ≤ largest * 1 + n * 1
at_most_of_times A u n largest P i j = let s : u < largest + n + 1 = lt_of_mul-lt-mul_right A (omega arith) in omega arith

module _ {speeds torques : List ℕ} {p : Point} {k : Cell} {z : ℤ} (entry : ℕ → ℕ → ℕ)
    (rules : RisingAxes speeds torques) (has : Has speeds torques p k) (rounds : RoundsUp (entry_sum speeds torques entry p k) z) where
  rounded : Rounded (total (λ s t. weight_for speeds torques p k s t * corners entry k s t)) (total (λ s t. weight_against speeds torques p k s t * corners entry k s t)) (area speeds torques k) z
  rounded = rounded_of z (entries_is rules has entry) rounds

  -- ---- from the first torque upwards the answer is between the least and the largest of the cell's four entries

  against_entries : FromFirstTorque torques p → total (λ s t. weight_against speeds torques p k s t * corners entry k s t) ≡ 0
  against_entries h = total_zero (λ s t. weight_against speeds torques p k s t * corners entry k s t) (λ s t. omega (arith, ap (λ (n : ℕ). n * corners entry k s t) (none_against_at rules has h s t)))

  weights_times : FromFirstTorque torques p → (n : ℕ) → total (λ s t. weight_for speeds torques p k s t * n) ≡ n * area speeds torques k
  weights_times h n =
      let e : total (weight_for speeds torques p k) ≡ area speeds torques k = omega (arith, total_for rules has, none_against rules has h) in
      omega (arith, ap (λ (m : ℕ). m * n) e, total_times (weight_for speeds torques p k) n)

  pub at_least_least_entry : FromFirstTorque torques p → (least : ℕ) → ((s t : Side) → least ≤ corners entry k s t) → whole least ≼ signed z
  at_least_least_entry h least bound =
      at_most (is_whole least) (is_signed z)
      (at_least_of_times (area speeds torques k) (up z) (down z) least (total (λ s t. weight_for speeds torques p k s t * corners entry k s t)) (area_positive rules has)
      (omega (arith, weights_times h least, total_at_most (λ s t. weight_for speeds torques p k s t * least) (λ s t. weight_for speeds torques p k s t * corners entry k s t) (λ s t. mul-le-mul_left (weight_for speeds torques p k s t) (bound s t))))
      (omega (arith, against_entries h, rounded.not_below)))

  pub at_most_largest_entry : FromFirstTorque torques p → (largest : ℕ) → ((s t : Side) → corners entry k s t ≤ largest) → signed z ≼ whole largest
  at_most_largest_entry h largest bound =
      at_most (is_signed z) (is_whole largest)
      (at_most_of_times (area speeds torques k) (up z) (down z) largest (total (λ s t. weight_for speeds torques p k s t * corners entry k s t))
      (omega (arith, weights_times h largest, total_at_most (λ s t. weight_for speeds torques p k s t * corners entry k s t) (λ s t. weight_for speeds torques p k s t * largest) (λ s t. mul-le-mul_left (weight_for speeds torques p k s t) (bound s t))))
      (omega (arith, against_entries h, rounded.near)))

  -- ---- the limits

  module _ {excess : ℕ} {exact : ℕ → ℕ → Cut} (accurate : EntriesAccurate excess speeds torques entry exact) where
    module _ (f : Corners Fraction) where
      at_most_entry : (s t : Side) → (exact_corner exact k s t).AtOrBelow (f s t) → plus_over f s t ≤ corners entry k s t * common_den f + minus_over f s t
      at_most_entry s t h =
          omega (arith, at_most_of (is_over_common f s t) (is_whole (corners entry k s t)) ((corner_accurate accurate has s t).never_below (f s t) h))

      near_entry : (s t : Side) → (exact_corner exact k s t).AtOrAbove (f s t) →
          corners entry k s t * common_den f + minus_over f s t < plus_over f s t + excess * common_den f
      near_entry s t h =
          omega (arith, below_of (is_whole (corners entry k s t)) (is_plus_whole excess (is_over_common f s t)) ((corner_accurate accurate has s t).near (f s t) h))

      low_sum : ChosenBelow speeds torques exact p k f →
          sum_for speeds torques p k (plus_over f) (minus_over f) + down z * (area speeds torques k * common_den f) + total (weight_against speeds torques p k)
          ≤ sum_for speeds torques p k (minus_over f) (plus_over f) + up z * (area speeds torques k * common_den f) + excess * (total (weight_against speeds torques p k) * common_den f)
      unfolding sum_for
      low_sum chosen =
          corners_low excess (area speeds torques k) (common_den f) z _ _ _ _ rounded (weight_against speeds torques p k)
          (λ s t. corner_low excess (weight_for speeds torques p k s t) (weight_against speeds torques p k s t) (corners entry k s t) (plus_over f s t) (minus_over f s t) (common_den f)
          (λ l. at_most_entry s t (chosen.positive s t (positive_weight rules has s t l)))
          (λ l. near_entry s t (chosen.negative s t (negative_weight rules has s t l))))

      high_sum : ChosenAbove speeds torques exact p k f →
          sum_for speeds torques p k (minus_over f) (plus_over f) + up z * (area speeds torques k * common_den f)
          < sum_for speeds torques p k (plus_over f) (minus_over f) + down z * (area speeds torques k * common_den f) + area speeds torques k * common_den f + excess * (total (weight_for speeds torques p k) * common_den f)
      unfolding sum_for
      high_sum chosen =
          corners_high excess (area speeds torques k) (common_den f) z _ _ _ _ rounded (weight_for speeds torques p k) (common_positive f)
          (λ s t. corner_high excess (weight_for speeds torques p k s t) (weight_against speeds torques p k s t) (corners entry k s t) (plus_over f s t) (minus_over f s t) (common_den f)
          (λ l. near_entry s t (chosen.positive s t (positive_weight rules has s t l)))
          (λ l. at_most_entry s t (chosen.negative s t (negative_weight rules has s t l))))

      -- what counts for the weights, and what counts against them, times the excess
      excess_none : FromFirstTorque torques p → excess * (total (weight_against speeds torques p k) * common_den f) ≡ 0
      excess_none h = omega (arith, ap (λ (n : ℕ). excess * (n * common_den f)) (none_against rules has h))

      excess_once : BelowFirstTorque torques p → excess * (total (weight_against speeds torques p k) * common_den f) ≤ excess * (area speeds torques k * common_den f)
      excess_once h = mul-le-mul_left excess (mul-le-mul_right (common_den f) (most_against rules has h))

      excess_for : excess * (total (weight_for speeds torques p k) * common_den f) ≡ excess * (area speeds torques k * common_den f) + excess * (total (weight_against speeds torques p k) * common_den f)
      excess_for = omega (arith, ap (λ (n : ℕ). excess * (n * common_den f)) (total_for rules has))

    kept_limits : Held (figures_of excess) speeds torques entry exact p k z
    kept_limits = record {
      named = rounds;
      never_below = λ h f chosen.
          at_most (sum_is rules has f _ _ _ (is_over_common f)) (is_signed z)
          (omega (arith, low_sum f chosen, excess_none f h));
      not_far_above = λ h f chosen.
          below (is_signed z) (is_plus_whole _ (sum_is rules has f _ _ _ (is_over_common f)))
          (omega (arith, high_sum f chosen, excess_for f, excess_none f h));
      not_far_below_first = λ h f chosen.
          below (sum_is rules has f _ _ _ (is_over_common f)) (is_plus_whole _ (is_signed z))
          (omega (arith, low_sum f chosen, excess_once f h, some_against rules has h));
      not_far_above_first = λ h f chosen.
          below (is_signed z) (is_plus_whole _ (sum_is rules has f _ _ _ (is_over_common f)))
          (omega (arith, high_sum f chosen, excess_for f, excess_once f h));
    }

-- An answer that is the cell's sum of accurate entries, rounded up once, keeps all its limits.
pub limits : {excess : ℕ} {speeds torques : List ℕ} {p : Point} {k : Cell} {z : ℤ} (entry : ℕ → ℕ → ℕ) {exact : ℕ → ℕ → Cut} →
    RisingAxes speeds torques → EntriesAccurate excess speeds torques entry exact → Has speeds torques p k → RoundsUp (entry_sum speeds torques entry p k) z →
    Held (figures_of excess) speeds torques entry exact p k z
limits entry rules accurate has rounds = kept_limits entry rules has rounds accurate
