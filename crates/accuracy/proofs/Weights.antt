-- The weights of a cell's corners: they add up to 1; from the first torque upwards none is negative; below it each is at least -1 and at most 2. Assumes nothing.
use Prim.Native.Nat.{ℕ, ◌+◌, ◌*◌, ◌-◌, ◌≤◌, ◌<◌}
use mathlib.Core.Path.{◌≡◌, ap, subst}
use mathlib.Core.List.{List}
use mathlib.Core.Logic.{◌⊎◌, inl, inr, ⊎_elim}
use native.Mathlib.Omega.{arith}
use native.Mathlib.Decide.{dec_le}
use native.Mathlib.Nat.{mul-pos, mul-le-mul_left}
use lib.ListN.{get_or}
use lib.IntN.{negsuc}
use Rattle.arith.specs.Fraction.{◌less◌over◌, whole, signed, ◌⊕◌, ◌⊗◌, ◌≼◌, ◌≺◌, Same}
use Rattle.arith.proofs.Fractions.{Is, is_whole, is_signed_negsuc, is_also, is_sum, is_product, at_most, below}
use Rattle.cell.specs.Cell.{Cell, Has, Side, lower, upper, Corners, share, weight}
use Rattle.cell.specs.declared.Point.{Point}
use Rattle.lookup.proofs.Axes.{RisingAxes}
use Rattle.lookup.proofs.Weights.{for, against, is_share}
use Rattle.accuracy.specs.Claim.{FromFirstTorque, BelowFirstTorque}
use Rattle.accuracy.proofs.Axes.{speeds_apart, torques_apart, speed_difference, torque_difference, cell_from, cell_first}

-- between numbers that are apart, a share's denominator is their difference, and not the 1 that stands for a 0
pub share_denominator : (x y v : ℕ) → x < y → (s : Side) → (share x y v s).den ≡ y - x
unfolding share ◌less◌over◌
share_denominator x y v h lower = omega arith
share_denominator x y v h upper = omega arith

-- ---- sums over the four corners

abbrev pub total : Corners ℕ → ℕ
total f = f lower lower + f lower upper + f upper lower + f upper upper

products_of_sums : (a₀ a₁ c₀ c₁ b₀ b₁ X Y : ℕ) → a₀ + a₁ ≡ X → c₀ + c₁ ≡ Y + (b₀ + b₁) →
    a₀ * c₀ + a₀ * c₁ + a₁ * c₀ + a₁ * c₁ ≡ X * Y + (a₀ * b₀ + a₀ * b₁ + a₁ * b₀ + a₁ * b₁)
products_of_sums a₀ a₁ c₀ c₁ b₀ b₁ X Y u v = rw (← u) (omega (arith, ap (λ (n : ℕ). a₀ * n) v, ap (λ (n : ℕ). a₁ * n) v))

product_of_sums : (a₀ a₁ b₀ b₁ X : ℕ) → a₀ + a₁ ≡ X → a₀ * b₀ + a₀ * b₁ + a₁ * b₀ + a₁ * b₁ ≡ X * (b₀ + b₁)
product_of_sums a₀ a₁ b₀ b₁ X u = rw (← u) (omega arith)

-- one of two products is 0, where one of two factors is
one_product_zero : (a b c : ℕ) → (b ≡ 0) ⊎ (c ≡ 0) → (a * b ≡ 0) ⊎ (a * c ≡ 0)
one_product_zero a b c h =
    ⊎_elim (λ e. inl (omega (arith, ap (λ (n : ℕ). a * n) e))) (λ e. inr (omega (arith, ap (λ (n : ℕ). a * n) e))) h

-- ---- the numbers of a cell

-- its size in speed, tenths of rpm, and in torque, hundredths of Nm
abbrev pub width : List ℕ → Cell → ℕ
width speeds k = 10 * get_or speeds (k.speed + 1) 0 - 10 * get_or speeds k.speed 0

abbrev pub height : List ℕ → Cell → ℕ
height torques k = 100 * get_or torques (k.torque + 1) 0 - 100 * get_or torques k.torque 0

unfoldable pub area : (speeds torques : List ℕ) → Cell → ℕ
area speeds torques k = width speeds k * height torques k

-- the shares of a point, times those sizes
abbrev pub speed_for : List ℕ → Point → Cell → Side → ℕ
speed_for speeds p k s = for (10 * get_or speeds k.speed 0) (10 * get_or speeds (k.speed + 1) 0) p.speed s

abbrev pub torque_for : List ℕ → Point → Cell → Side → ℕ
torque_for torques p k t = for (100 * get_or torques k.torque 0) (100 * get_or torques (k.torque + 1) 0) p.torque t

abbrev pub torque_against : List ℕ → Point → Cell → Side → ℕ
torque_against torques p k t = against (100 * get_or torques k.torque 0) (100 * get_or torques (k.torque + 1) 0) p.torque t

-- a weight times the area, by what counts for it and what counts against it
unfoldable pub weight_for : (speeds torques : List ℕ) → Point → Cell → Corners ℕ
weight_for speeds torques p k s t = speed_for speeds p k s * torque_for torques p k t

unfoldable pub weight_against : (speeds torques : List ℕ) → Point → Cell → Corners ℕ
weight_against speeds torques p k s t = speed_for speeds p k s * torque_against torques p k t

module _ {speeds torques : List ℕ} {p : Point} {k : Cell} (rules : RisingAxes speeds torques) (has : Has speeds torques p k) where
  pub area_positive : 0 < area speeds torques k
  unfolding area
  area_positive = mul-pos (speed_difference rules has) (torque_difference rules has)

  -- ---- the shares

  -- within a cell no share in speed is negative
  speed_none_against : (s : Side) → against (10 * get_or speeds k.speed 0) (10 * get_or speeds (k.speed + 1) 0) p.speed s ≡ 0
  speed_none_against lower = omega (arith, has.upto)
  speed_none_against upper = omega (arith, has.from)

  speed_shares : speed_for speeds p k lower + speed_for speeds p k upper ≡ width speeds k
  speed_shares = omega (arith, has.from, has.upto)

  torque_shares : torque_for torques p k lower + torque_for torques p k upper ≡ height torques k + (torque_against torques p k lower + torque_against torques p k upper)
  torque_shares = omega (arith, has.top, torques_apart rules has)

  torque_one_side : (t : Side) → (torque_against torques p k t ≡ 0) ⊎ (torque_for torques p k t ≡ 0)
  torque_one_side lower = inl (omega (arith, has.top))
  torque_one_side upper = go (dec_le (100 * get_or torques k.torque 0) p.torque)
    where
      go : Dec (100 * get_or torques k.torque 0 ≤ p.torque) → (torque_against torques p k upper ≡ 0) ⊎ (torque_for torques p k upper ≡ 0)
      go (yes l) = inl (omega arith)
      go (no l) = inr (omega arith)

  speed_at_most : (s : Side) → speed_for speeds p k s ≤ width speeds k
  speed_at_most lower = omega (arith, speed_shares)
  speed_at_most upper = omega (arith, speed_shares)

  -- ---- the weights

  pub weight_denominator : (s t : Side) → (weight speeds torques p k s t).den ≡ width speeds k * height torques k
  unfolding weight ◌⊗◌
  weight_denominator s t = rw (share_denominator _ _ _ (speeds_apart rules has) s, share_denominator _ _ _ (torques_apart rules has) t)

  pub weight_is : (s t : Side) → Is (weight speeds torques p k s t) (weight_for speeds torques p k s t) (weight_against speeds torques p k s t) (area speeds torques k)
  unfolding weight weight_for weight_against area
  weight_is s t =
      is_also _ _ (area speeds torques k) area_positive (omega arith)
      (is_product (rw (speed_none_against s) at (is_share _ _ p.speed (speeds_apart rules has) s)) (is_share _ _ p.torque (torques_apart rules has) t))

  pub one_side : (s t : Side) → (weight_against speeds torques p k s t ≡ 0) ⊎ (weight_for speeds torques p k s t ≡ 0)
  unfolding weight_for weight_against
  one_side s t = one_product_zero (speed_for speeds p k s) _ _ (torque_one_side t)

  pub positive_weight : (s t : Side) → 0 < weight_for speeds torques p k s t → whole 0 ≺ weight speeds torques p k s t
  positive_weight s t l =
      below (is_whole 0) (weight_is s t) (⊎_elim (λ e. omega arith) (λ e. absurd (omega arith)) (one_side s t))

  pub negative_weight : (s t : Side) → 0 < weight_against speeds torques p k s t → weight speeds torques p k s t ≺ whole 0
  negative_weight s t l =
      below (weight_is s t) (is_whole 0) (⊎_elim (λ e. absurd (omega arith)) (λ e. omega arith) (one_side s t))

  -- ---- their sums

  pub total_for : total (weight_for speeds torques p k) ≡ area speeds torques k + total (weight_against speeds torques p k)
  unfolding weight_for weight_against area
  total_for =
      products_of_sums (speed_for speeds p k lower) (speed_for speeds p k upper) (torque_for torques p k lower) (torque_for torques p k upper)
      (torque_against torques p k lower) (torque_against torques p k upper) _ _ speed_shares torque_shares

  total_against : total (weight_against speeds torques p k) ≡ width speeds k * (torque_against torques p k lower + torque_against torques p k upper)
  unfolding weight_against
  total_against =
      product_of_sums (speed_for speeds p k lower) (speed_for speeds p k upper) (torque_against torques p k lower) (torque_against torques p k upper) _ speed_shares

  pub none_against : FromFirstTorque torques p → total (weight_against speeds torques p k) ≡ 0
  none_against h =
      let n : torque_against torques p k lower + torque_against torques p k upper ≡ 0 = omega (arith, has.top, cell_from rules has h) in
      omega (arith, total_against, ap (λ (n : ℕ). width speeds k * n) n)

  pub some_against : BelowFirstTorque torques p → 0 < total (weight_against speeds torques p k)
  some_against h =
      let l : p.torque < 100 * get_or torques k.torque 0 = rw (cell_first rules has h) h in
      let n : 0 < torque_against torques p k lower + torque_against torques p k upper = omega arith in
      omega (arith, total_against, mul-pos (speed_difference rules has) n)

  torque_against_at_most : BelowFirstTorque torques p → torque_against torques p k lower + torque_against torques p k upper ≤ height torques k
  torque_against_at_most h =
      let e = cell_first rules has h in
      rw e (omega (arith, subst (λ (j : ℕ). p.torque ≤ 100 * get_or torques (j + 1) 0) e has.top, rules.step))

  pub most_against : BelowFirstTorque torques p → total (weight_against speeds torques p k) ≤ area speeds torques k
  unfolding area
  most_against h = omega (arith, total_against, mul-le-mul_left (width speeds k) (torque_against_at_most h))

  -- ---- what this says of the weights as fractions

  pub weights_add_to_one : Same (weight speeds torques p k lower lower ⊕ weight speeds torques p k lower upper ⊕ weight speeds torques p k upper lower ⊕ weight speeds torques p k upper upper) (whole 1)
  weights_add_to_one =
      let i = is_sum (is_sum (is_sum (weight_is lower lower) (weight_is lower upper)) (weight_is upper lower)) (weight_is upper upper) in
      (at_most i (is_whole 1) (omega (arith, total_for)), at_most (is_whole 1) i (omega (arith, total_for)))

  -- one of four
  at_most_total : (f : Corners ℕ) (s t : Side) → f s t ≤ total f
  at_most_total f lower lower = omega arith
  at_most_total f lower upper = omega arith
  at_most_total f upper lower = omega arith
  at_most_total f upper upper = omega arith

  pub none_against_at : FromFirstTorque torques p → (s t : Side) → weight_against speeds torques p k s t ≡ 0
  none_against_at h s t = omega (arith, at_most_total (weight_against speeds torques p k) s t, none_against h)

  pub weight_not_negative : FromFirstTorque torques p → (s t : Side) → whole 0 ≼ weight speeds torques p k s t
  weight_not_negative h s t = at_most (is_whole 0) (weight_is s t) (omega (arith, none_against_at h s t))

  pub weight_at_least_minus_one : BelowFirstTorque torques p → (s t : Side) → signed (negsuc 0) ≼ weight speeds torques p k s t
  weight_at_least_minus_one h s t =
      at_most (is_signed_negsuc 0) (weight_is s t) (omega (arith, at_most_total (weight_against speeds torques p k) s t, most_against h))

  pub weight_at_most_two : BelowFirstTorque torques p → (s t : Side) → weight speeds torques p k s t ≼ whole 2
  weight_at_most_two h s t =
      at_most (weight_is s t) (is_whole 2) (omega (arith, at_most_total (weight_for speeds torques p k) s t, total_for, most_against h))
