-- How near a root of whole numbers that were rounded up is to the root of the exact ones. Whole numbers only. Assumes nothing.
use Prim.Native.Nat.{ℕ, zero, suc, ◌+◌, ◌*◌, ◌-◌, ◌≤◌, ◌<◌}
use mathlib.Core.Path.{◌≡◌}
use mathlib.Core.List.{List, [], ◌∷◌}
use native.Mathlib.Omega.{arith, sub_cases, by_contra}
use native.Mathlib.Nat.{mul-le-mul_right, le_dest, le_of_mul-le-mul_right, mul-pos}
use Rattle.arith.specs.Quotient.{QuotientUp}
use Rattle.arith.specs.Root.{RootUp}
use Rattle.arith.proofs.Squares.{square_at_most, at_most_of_square}
use Rattle.loss.specs.Measured.{four_squares, LeastUncertainty}

-- ---- sums of squares

twice_product_at : (x k : ℕ) → 2 * x * (x + k) ≤ x * x + (x + k) * (x + k)
twice_product_at x k = omega arith

twice_product_ordered : (x y : ℕ) → x ≤ y → 2 * x * y ≤ x * x + y * y
twice_product_ordered x y h = rw (← (le_dest h).1) (twice_product_at x (le_dest h).0)

pub twice_product : (x y : ℕ) → 2 * x * y ≤ x * x + y * y
twice_product x y = sub_cases x y (2 * x * y ≤ x * x + y * y) (λ h e. omega (arith, twice_product_ordered y x h)) (λ h e. twice_product_ordered x y h)

-- the square of the weighted sum is at most 6 times the weighted sum of the squares, 6 being the sum of the weights 1, 1, 3, 1
square_of_sum : (a b g h : ℕ) → 4 * ((a + b + 3 * g + h) * (a + b + 3 * g + h)) ≤ 6 * four_squares a b g h
square_of_sum a b g h = omega (arith, twice_product a b, twice_product a g, twice_product a h, twice_product b g, twice_product b h, twice_product g h)

-- ---- a sensor: U is not below the exact root, and less than 4 above it

square_near : {x D a : ℕ} → QuotientUp x D a → a * a * (D * D) ≤ x * x + 2 * (x * D) + D * D
square_near {x} {D} {a} q = let l : a * D ≤ x + D = omega (arith, q.near) in omega (arith, square_at_most l)

-- the exact parts are a / D, b / D, g / D and h / D; rounded up they are a', b', g' and h'
module _ (D a b g h a' b' g' h' U : ℕ) (pos : 0 < D)
    (qa : QuotientUp a D a') (qb : QuotientUp b D b') (qg : QuotientUp g D g') (qh : QuotientUp h D h') (law : LeastUncertainty a' b' g' h' U) where
  pub sensor_enough : four_squares a b g h ≤ 3 * (U * D * (U * D))
  sensor_enough =
      omega (arith, mul-le-mul_right (D * D) law.enough, square_at_most qa.not_below, square_at_most qb.not_below, square_at_most qg.not_below, square_at_most qh.not_below)

  sum_at_most : (u : ℕ) → four_squares a b g h < 3 * (u * D * (u * D)) → 4 * (a + b + 3 * g + h) ≤ 9 * (u * D)
  sum_at_most u l = at_most_of_square (4 * (a + b + 3 * g + h)) (9 * (u * D)) (omega (arith, square_of_sum a b g h))

  enough_at_three : (u : ℕ) → four_squares a b g h < 3 * (u * D * (u * D)) → four_squares a' b' g' h' ≤ 3 * ((u + 3) * (u + 3))
  enough_at_three u l =
      le_of_mul-le-mul_right {k = D * D}
      (omega (arith, square_near qa, square_near qb, square_near qg, square_near qh, mul-le-mul_right D (sum_at_most u l)))
      (mul-pos pos pos)

  near_at : (u : ℕ) → U ≡ u + 4 → 3 * (u * D * (u * D)) ≤ four_squares a b g h
  near_at u e = by_contra _ _ (λ l. omega (arith, law.least (u + 3) (enough_at_three u l)))

  pub sensor_near : 3 * ((U - 4) * D * ((U - 4) * D)) ≤ four_squares a b g h
  sensor_near =
      sub_cases U 4 (3 * ((U - 4) * D * ((U - 4) * D)) ≤ four_squares a b g h) (λ _ e. near_at (U - 4) (omega arith)) (λ _ z. rw z (omega arith))

-- ---- a root over a list of parts

-- the whole number that is used, the exact one, and how far above that it may be
pub record Term : Type 0 where
  pub used : ℕ
  pub exact : ℕ
  pub slack : ℕ

abbrev pub used_squares : List Term → ℕ
used_squares [] = 0
used_squares (t ∷ ts) = t.used * t.used + used_squares ts

abbrev pub exact_squares : List Term → ℕ
exact_squares [] = 0
exact_squares (t ∷ ts) = t.exact * t.exact + exact_squares ts

abbrev pub slacks : List Term → ℕ
slacks [] = 0
slacks (t ∷ ts) = t.slack + slacks ts

-- each used number times Q is at most its exact one and its slack
abbrev pub TermsWithin : ℕ → List Term → Type 0
TermsWithin Q [] = Unit {0}
TermsWithin Q (t ∷ ts) = (t.used * Q ≤ t.exact + t.slack) × TermsWithin Q ts

squares_within : (Q y : ℕ) (ts : List Term) → TermsWithin Q ts → exact_squares ts ≤ y * y →
    used_squares ts * (Q * Q) ≤ exact_squares ts + 2 * (y * slacks ts) + slacks ts * slacks ts
squares_within Q y [] h l = omega arith
squares_within Q y (t ∷ ts) h l =
    let b : t.exact ≤ y = at_most_of_square t.exact y (omega arith) in
    omega (arith, square_at_most h.0, squares_within Q y ts h.1 (omega arith), mul-le-mul_right t.slack b)

-- the root T of the used numbers is less than all slacks and one above y, where y is at or above the exact root
pub root_within : (Q : ℕ) (ts : List Term) (y T : ℕ) → 0 < Q → TermsWithin Q ts → exact_squares ts ≤ y * y → RootUp (used_squares ts) T → T * Q < y + slacks ts + Q
root_within Q ts y zero pos h l r = omega arith
root_within Q ts y (suc k) pos h l r = by_contra _ _ (λ far. not_least (omega arith))
  where
    not_least : y + slacks ts ≤ k * Q → ⊥
    not_least far =
        omega (arith, r.least k (le_of_mul-le-mul_right {k = Q * Q} (omega (arith, squares_within Q y ts h l, square_at_most far)) (mul-pos pos pos)))
