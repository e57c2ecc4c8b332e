-- How the quotient rounded up is found, and that quotients keep the order. Assumes nothing.
use Prim.Native.Nat.{ℕ, suc, ◌+◌, ◌*◌, ◌-◌, ◌/◌, ◌%◌, ◌<◌, ◌≤◌}
use mathlib.Core.Path.{◌≡◌, ap}
use native.Mathlib.Omega.{arith, by_contra}
use native.Mathlib.Nat.{div-mul-le_self, lt-div-mul-add, mul-le-mul_left, mul-le-mul_right}
use Rattle.std.specs.Int.{div_ceil}
use Rattle.std.proofs.lemmas.Grind.{div_ceil_times}
use Rattle.arith.specs.Quotient.{quotient_up, quotient_down, QuotientUp, quotient_up_law, quotient_down_law, quotient_up_unique, quotient_down_unique, quotient_down_greatest}

-- the number that obeys the law is the quotient
pub is_quotient_up : {n d q : ℕ} → 0 < d → QuotientUp n d q → q ≡ quotient_up n d
is_quotient_up {n} {d} h u = quotient_up_unique u (quotient_up_law n d h)

-- as the library's `div_ceil` finds it
pub div_ceil_is_quotient_up : (n d : ℕ) → 0 < d → div_ceil n d ≡ quotient_up n d
div_ceil_is_quotient_up n d h = let b = div_ceil_times n d h in is_quotient_up h (record { not_below = b.0; near = b.1 })

-- the quotient of the sum with one less than the divisor, rounded down
pub quotient_up_sum : (n d : ℕ) → 0 < d → (n + (d - 1)) / d ≡ quotient_up n d
quotient_up_sum n d h = is_quotient_up h (record { not_below = omega (arith, lt-div-mul-add {a = n + (d - 1)} h); near = omega (arith, div-mul-le_self (n + (d - 1)) d) })

pub quotient_down_monotone : (m n d : ℕ) → 0 < d → m ≤ n → quotient_down m d ≤ quotient_down n d
quotient_down_monotone m n d h l = quotient_down_greatest (quotient_down_law n d h) (quotient_down m d) (omega (arith, (quotient_down_law m d h).not_above))

-- n / d in two steps, a scale at a time
pub quotient_in_steps : (n d scale : ℕ) → 0 < d → n / d * scale + n % d * scale / d ≡ n * scale / d
quotient_in_steps n d scale h =
    let rest = n % d * scale in
    let parts : n ≡ d * (n / d) + n % d = omega (arith, h) in
    let split : n * scale ≡ (d * (n / d) + n % d) * scale = ap (λ (m : ℕ). m * scale) parts in
    let low = div-mul-le_self rest d in
    let high = lt-div-mul-add {a = rest} h in
    quotient_down_unique
    (record { not_above = omega (arith, split, low); near = omega (arith, split, high) })
    (record { not_above = div-mul-le_self (n * scale) d; near = lt-div-mul-add {a = n * scale} h })

-- The quotient of k * t by a rate, k / d in parts of 1 / scale rounded down: what the rate lacks makes less than the one part that is
-- left where t * d is below the scale.
module _ (k t d scale rate q : ℕ) (floor : rate * d ≤ k * scale) (next : k * scale + 1 ≤ rate * d + d) (low : q * scale + 1 ≤ rate * t + scale) (high : rate * t + scale ≤ q * scale + scale) (small : t * d + 1 ≤ scale) where
  by_rate_not_below : q * d + 1 ≤ k * t → ⊥
  by_rate_not_below m =
      let a = mul-le-mul_right scale m in
      let b = mul-le-mul_left t next in
      let c = mul-le-mul_right d high in
      omega (arith, a, b, c, small)

  by_rate_near : 0 < d → k * t + d ≤ q * d → ⊥
  by_rate_near h m =
      let a = mul-le-mul_right scale m in
      let b = mul-le-mul_left t floor in
      let c = mul-le-mul_right d low in
      omega (arith, a, b, c, h)

pub quotient_by_rate : (k t d scale rate : ℕ) → 0 < d → rate ≡ k * scale / d → t * d < scale → (rate * t + (scale - 1)) / scale ≡ quotient_up (k * t) d
quotient_by_rate k t d scale rate h e l =
    let sum = rate * t + (scale - 1) in
    let floor : rate * d ≤ k * scale = rw e (div-mul-le_self (k * scale) d) in
    let next : k * scale < rate * d + d = rw e (lt-div-mul-add {a = k * scale} h) in
    let low = div-mul-le_self sum scale in
    let high : sum < sum / scale * scale + scale = lt-div-mul-add {a = sum} (omega (arith, l)) in
    let low' : sum / scale * scale + 1 ≤ rate * t + scale = omega (arith, low, l) in
    let high' : rate * t + scale ≤ sum / scale * scale + scale = omega (arith, high, l) in
    let next' : k * scale + 1 ≤ rate * d + d = omega (arith, next) in
    let small : t * d + 1 ≤ scale = omega (arith, l) in
    is_quotient_up h (record {
      not_below = by_contra (k * t) (sum / scale * d) (λ m. absurd (by_rate_not_below k t d scale rate (sum / scale) floor next' low' high' small (omega (arith, m))));
      near = by_contra (suc (sum / scale * d)) (k * t + d) (λ m. absurd (by_rate_near k t d scale rate (sum / scale) floor next' low' high' small h (omega (arith, m))));
    })
