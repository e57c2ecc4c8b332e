-- The values of shares, weights and weighted sums in a cell that has the point. Assumes nothing.
use Prim.Native.Nat.{ℕ, ◌+◌, ◌-◌, ◌*◌, ◌<◌}
use mathlib.Core.Path.{◌≡◌, ap}
use mathlib.Core.List.{List}
use native.Mathlib.Omega.{arith}
use native.Mathlib.Nat.{mul-pos}
use lib.ListN.{length, get_or}
use Rattle.arith.specs.Fraction.{Fraction, whole, ◌⊗◌}
use Rattle.arith.proofs.Fractions.{Is, is_less, is_whole, is_also, is_sum, is_product}
use Rattle.cell.specs.Cell.{Cell, Has, Side, lower, upper, share, weight, sum, index, corners, entry_at}
use Rattle.cell.specs.declared.Point.{Point}
use Rattle.cell.specs.Rounding.{ceiling}
use Rattle.cell.specs.Interpolation.{cell_numbers, interpolation}
use Rattle.lookup.proofs.Axes.{RisingAxes}
use Rattle.cell.proofs.Rounding.{ceiling_is}

-- ---- shares

-- a share, as what counts for and what counts against; one of them is 0
abbrev pub for : (x y v : ℕ) → Side → ℕ
for x y v lower = y - v
for x y v upper = v - x

abbrev pub against : (x y v : ℕ) → Side → ℕ
against x y v lower = v - y
against x y v upper = x - v

apart : (a b d : ℕ) → a * d + (b - a) * d ≡ (a - b) * d + b * d
apart a b d = let e : a + (b - a) ≡ a - b + b = omega arith in omega (arith, ap (λ (n : ℕ). n * d) e)

pub is_share : (x y v : ℕ) → x < y → (s : Side) → Is (share x y v s) (for x y v s) (against x y v s) (y - x)
unfolding share
is_share x y v h lower = is_also (y - v) (v - y) (y - x) (omega arith) (apart y v (y - x)) (is_less y v (y - x) (omega arith))
is_share x y v h upper = is_also (v - x) (x - v) (y - x) (omega arith) (apart v x (y - x)) (is_less v x (y - x) (omega arith))

-- ---- a weight, and a whole number times it

for_alone : {x : Fraction} {p m d : ℕ} → m ≡ 0 → Is x p m d → Is x p 0 d
for_alone {p = p} {d = d} e i = is_also p 0 d i.pos (omega (arith, ap (λ (n : ℕ). n * d) e)) i

times_for : {x y : Fraction} {a X c b Y : ℕ} → Is x a 0 X → Is y c b Y → Is (x ⊗ y) (a * c) (a * b) (X * Y)
times_for {a = a} {X} {c} {b} {Y} i j = is_also (a * c) (a * b) (X * Y) (mul-pos i.pos j.pos) (omega arith) (is_product i j)

times_whole : {w : Fraction} {p m d : ℕ} (e : ℕ) → Is w p m d → Is (w ⊗ whole e) (p * e) (m * e) d
times_whole {p = p} {m} {d} e i = is_also (p * e) (m * e) d i.pos (omega arith) (is_product i (is_whole e))

-- four terms, of which the first and the third have nothing against
without : {x : Fraction} (P a₀ a₁ b e₀ e₁ m₀ m₁ d : ℕ) → b ≡ 0 → Is x P (a₀ * b * e₀ + m₀ + a₁ * b * e₁ + m₁) d → Is x P (m₀ + m₁) d
without P a₀ a₁ b e₀ e₁ m₀ m₁ d h i =
    is_also P (m₀ + m₁) d i.pos (omega (arith, ap (λ (n : ℕ). a₀ * n * e₀ * d) h, ap (λ (n : ℕ). a₁ * n * e₁ * d) h)) i

module _ (speeds torques : List ℕ) (axes : RisingAxes speeds torques) (p : Point) (k : Cell) (has : Has speeds torques p k) where
  -- the speeds and the torques of the cell
  abbrev pub x0 : ℕ
  x0 = 10 * get_or speeds k.speed 0

  abbrev pub x1 : ℕ
  x1 = 10 * get_or speeds (k.speed + 1) 0

  abbrev pub y0 : ℕ
  y0 = 100 * get_or torques k.torque 0

  abbrev pub y1 : ℕ
  y1 = 100 * get_or torques (k.torque + 1) 0

  -- a corner's share in speed, and its share in torque, for and against
  abbrev pub a : Side → ℕ
  a = for x0 x1 p.speed

  abbrev pub c : Side → ℕ
  c = for y0 y1 p.torque

  abbrev pub b : Side → ℕ
  b = against y0 y1 p.torque

  pub wide : x0 < x1
  wide = omega (arith, axes.speeds.rises k.speed has.speed_in)

  pub tall : y0 < y1
  tall = omega (arith, axes.torques.rises k.torque has.torque_in)

  no_speed_against : (s : Side) → against x0 x1 p.speed s ≡ 0
  no_speed_against lower = omega (arith, has.upto)
  no_speed_against upper = omega (arith, has.from)

  pub is_weight : (s t : Side) → Is (weight speeds torques p k s t) (a s * c t) (a s * b t) ((x1 - x0) * (y1 - y0))
  unfolding weight
  is_weight s t = times_for (for_alone (no_speed_against s) (is_share x0 x1 p.speed wide s)) (is_share y0 y1 p.torque tall t)

  -- the weighted sum of the entries has the value that the code reckons
  pub ceiling_interpolation : (entries : List ℕ) → ceiling (sum speeds torques p k (corners (λ i j. whole (entry_at (length torques) entries i j)) k)) ≡ ceiling (interpolation (cell_numbers speeds torques (length torques) entries k) p)
  unfolding sum corners index cell_numbers interpolation
  ceiling_interpolation entries =
      let n = length torques in
      let e00 : ℕ = entry_at n entries k.speed k.torque in
      let e01 : ℕ = entry_at n entries k.speed (k.torque + 1) in
      let e10 : ℕ = entry_at n entries (k.speed + 1) k.torque in
      let e11 : ℕ = entry_at n entries (k.speed + 1) (k.torque + 1) in
      ceiling_is
      (without _ (a lower) (a upper) (b lower) e00 e10 (a lower * b upper * e01) (a upper * b upper * e11) _ (omega (arith, has.top))
      (is_sum
      (is_sum (is_sum (times_whole e00 (is_weight lower lower)) (times_whole e01 (is_weight lower upper))) (times_whole e10 (is_weight upper lower)))
      (times_whole e11 (is_weight upper upper))))
