-- Quotients of whole numbers, rounded up and rounded down. Assumes nothing.
use Rattle.std.specs.Prelude.{ℕ, zero, suc, ◌+◌, ◌*◌, ◌/◌, ◌≤◌, ◌<◌, ◌≡◌, refl}
use native.Mathlib.Omega.{arith, by_contra}
use Rattle.std.proofs.Common.{mul-le-mul_right, div-mul-le_self, le_antisymm}
use Rattle.std.proofs.Math.Nat.{lt-div-mul-add}

-- n / d rounded up. A quotient by 0 has the value 0.
unfoldable pub quotient_up : ℕ → ℕ → ℕ
quotient_up n zero = 0
quotient_up n (suc d) = (n + d) / suc d

-- n / d rounded down. A quotient by 0 has the value 0.
unfoldable pub quotient_down : ℕ → ℕ → ℕ
quotient_down n zero = 0
quotient_down n (suc d) = n / suc d

-- q is n / d rounded up: not below it, and less than one above it
pub record QuotientUp (n d q : ℕ) : Type 0 where
  pub not_below : n ≤ q * d
  pub near : q * d < n + d

-- q is n / d rounded down: not above it, and less than one below it
pub record QuotientDown (n d q : ℕ) : Type 0 where
  pub not_above : q * d ≤ n
  pub near : n < q * d + d

-- ---- rounded up

pub quotient_up_law : (n d : ℕ) → 0 < d → QuotientUp n d (quotient_up n d)
unfolding quotient_up
quotient_up_law n zero h = absurd (omega arith)
quotient_up_law n (suc d) h = record {
  not_below = omega (arith, lt-div-mul-add {a = n + d} h);
  near = omega (arith, div-mul-le_self (n + d) (suc d));
}

-- no smaller whole number times d reaches n
pub quotient_up_least : {n d q : ℕ} → QuotientUp n d q → (k : ℕ) → n ≤ k * d → q ≤ k
quotient_up_least {n} {d} {q} u k h = by_contra q k (λ l. omega (arith, u.near, mul-le-mul_right d l))

pub quotient_up_unique : {n d q r : ℕ} → QuotientUp n d q → QuotientUp n d r → q ≡ r
quotient_up_unique {n} {d} {q} {r} u v = le_antisymm (quotient_up_least u r v.not_below) (quotient_up_least v q u.not_below)

pub quotient_up_by_zero : (n : ℕ) → quotient_up n 0 ≡ 0
unfolding quotient_up
quotient_up_by_zero n = refl

-- ---- rounded down

pub quotient_down_law : (n d : ℕ) → 0 < d → QuotientDown n d (quotient_down n d)
unfolding quotient_down
quotient_down_law n zero h = absurd (omega arith)
quotient_down_law n (suc d) h = record { not_above = div-mul-le_self n (suc d); near = lt-div-mul-add {a = n} h }

-- no larger whole number times d stays within n
pub quotient_down_greatest : {n d q : ℕ} → QuotientDown n d q → (k : ℕ) → k * d ≤ n → k ≤ q
quotient_down_greatest {n} {d} {q} u k h = by_contra k q (λ l. omega (arith, u.near, mul-le-mul_right d l))

pub quotient_down_unique : {n d q r : ℕ} → QuotientDown n d q → QuotientDown n d r → q ≡ r
quotient_down_unique {n} {d} {q} {r} u v = le_antisymm (quotient_down_greatest v q u.not_above) (quotient_down_greatest u r v.not_above)

pub quotient_down_by_zero : (n : ℕ) → quotient_down n 0 ≡ 0
unfolding quotient_down
quotient_down_by_zero n = refl
