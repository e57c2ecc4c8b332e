-- Two cells that share a line have the same sum on it: so every cell that has a point gives the same sum there. Assumes nothing.
use Prim.Native.Nat.{ℕ, ◌+◌, ◌-◌, ◌*◌, ◌≤◌, ◌<◌}
use mathlib.Core.Path.{◌≡◌, refl, ap, subst}
use mathlib.Core.List.{List}
use mathlib.Core.Logic.{⊎_elim}
use native.Mathlib.Omega.{arith}
use native.Mathlib.Decide.{dec_lt}
use native.Mathlib.Nat.{mul-pos, le_refl, mul-lt-mul_of_pos_left}
use lib.ListN.{length, get_or}
use Rattle.arith.specs.Fraction.{Fraction, ◌⊕◌, ◌⊗◌, Same}
use Rattle.arith.proofs.Fractions.{Is, is_itself, is_also, is_expanded, is_sum, is_product, at_most, at_most_itself, at_most_trans}
use Rattle.cell.specs.Cell.{Cell, Has, lower, upper, sum, index, corners}
use Rattle.cell.specs.declared.Point.{Point}
use Rattle.lookup.proofs.Axes.{Rising, RisingAxes, rise_lt}
use Rattle.lookup.proofs.Weights.{is_weight, wide, tall}

pub same_is : {x y : Fraction} {p m d : ℕ} → Is x p m d → Is y p m d → Same x y
same_is i j = (at_most i j (le_refl _), at_most j i (le_refl _))

same_trans : (x y z : Fraction) → Same x y → Same y z → Same x z
same_trans x y z h k = (at_most_trans x y z h.0 k.0, at_most_trans z y x k.1 h.1)

-- fractions that are the same at each two indices of which the first is lower are so at any two
pub any_two : (f : ℕ → Fraction) (P : ℕ → Type 0) → ((i j : ℕ) → i < j → P i → P j → Same (f i) (f j)) → (i j : ℕ) → P i → P j → Same (f i) (f j)
any_two f P up i j a b = go (dec_lt i j) (dec_lt j i)
  where
    go : Dec (i < j) → Dec (j < i) → Same (f i) (f j)
    go (yes l) t = up i j l a b
    go (no l) (yes t) = let h = up j i t b a in (h.1, h.0)
    go (no l) (no t) = let e : i ≡ j = omega arith in rw e (at_most_itself (f j), at_most_itself (f j))

-- ---- neighbouring cells

-- two cells have v, and they differ: they are neighbours, and v is on the line between them
module _ (ns : List ℕ) (r : Rising ns) (scale v : ℕ) where
  rise_scaled : 0 < scale → (i j : ℕ) → i < j → j < length ns → scale * get_or ns i 0 < scale * get_or ns j 0
  rise_scaled h i j l b = mul-lt-mul_of_pos_left (rise_lt ns r i j l b) h

  pub neighbours : 0 < scale → (i j : ℕ) → j + 1 < length ns → v ≤ scale * get_or ns (i + 1) 0 → scale * get_or ns j 0 ≤ v → i < j → (j ≡ i + 1) × (v ≡ scale * get_or ns (i + 1) 0)
  neighbours s i j b h l a = go (dec_lt (i + 1) j)
    where
      go : Dec (i + 1 < j) → (j ≡ i + 1) × (v ≡ scale * get_or ns (i + 1) 0)
      go (yes m) = absurd (omega (arith, rise_scaled s (i + 1) j m (omega arith)))
      go (no m) = let e : j ≡ i + 1 = omega arith in let l' : scale * get_or ns (i + 1) 0 ≤ v = rw e at l in (e, omega arith)

-- ---- weights on a line

-- a weight of 0, and one that is a share on the other axis alone
no_speed : {w : Fraction} {A : ℕ} (a b c : ℕ) → a ≡ 0 → Is w (a * c) (a * b) A → Is w 0 0 A
no_speed {A = A} a b c e i = is_also 0 0 A i.pos (omega (arith, ap (λ (n : ℕ). n * c * A) e, ap (λ (n : ℕ). n * b * A) e)) i

all_speed : {w : Fraction} (a b c X Y : ℕ) → 0 < Y → a ≡ X → Is w (a * c) (a * b) (X * Y) → Is w c b Y
all_speed a b c X Y h e i = is_also c b Y h (omega (arith, ap (λ (n : ℕ). n * c * Y) e, ap (λ (n : ℕ). n * b * Y) e)) i

no_torque : {w : Fraction} {A : ℕ} (a b c : ℕ) → c ≡ 0 → b ≡ 0 → Is w (a * c) (a * b) A → Is w 0 0 A
no_torque {A = A} a b c e f i = is_also 0 0 A i.pos (omega (arith, ap (λ (n : ℕ). a * n * A) e, ap (λ (n : ℕ). a * n * A) f)) i

all_torque : {w : Fraction} (a b c X Y : ℕ) → 0 < X → c ≡ Y → b ≡ 0 → Is w (a * c) (a * b) (X * Y) → Is w a 0 X
all_torque a b c X Y h e f i = is_also a 0 X h (omega (arith, ap (λ (n : ℕ). a * n * X) e, ap (λ (n : ℕ). a * n * X) f)) i

zero_term : {w : Fraction} {e : ℕ} (f : Fraction) (D : ℕ) → 0 < D → Is w 0 0 e → Is (w ⊗ f) 0 0 D
zero_term f D h i = is_also 0 0 D h (omega arith) (is_product i (is_itself f))

-- four terms of which two are 0
module _ {t₀ t₁ t₂ t₃ : Fraction} {a a' b b' D : ℕ} where
  upper_speed : Is t₀ 0 0 D → Is t₁ 0 0 D → Is t₂ a a' D → Is t₃ b b' D → Is (t₀ ⊕ t₁ ⊕ t₂ ⊕ t₃) (a + b) (a' + b') D
  upper_speed i j k l = is_also (a + b) (a' + b') D i.pos (omega arith) (is_sum (is_sum (is_sum i j) k) l)

  lower_speed : Is t₀ a a' D → Is t₁ b b' D → Is t₂ 0 0 D → Is t₃ 0 0 D → Is (t₀ ⊕ t₁ ⊕ t₂ ⊕ t₃) (a + b) (a' + b') D
  lower_speed i j k l = is_also (a + b) (a' + b') D i.pos (omega arith) (is_sum (is_sum (is_sum i j) k) l)

  upper_torque : Is t₀ 0 0 D → Is t₁ a a' D → Is t₂ 0 0 D → Is t₃ b b' D → Is (t₀ ⊕ t₁ ⊕ t₂ ⊕ t₃) (a + b) (a' + b') D
  upper_torque i j k l = is_also (a + b) (a' + b') D i.pos (omega arith) (is_sum (is_sum (is_sum i j) k) l)

  lower_torque : Is t₀ a a' D → Is t₁ 0 0 D → Is t₂ b b' D → Is t₃ 0 0 D → Is (t₀ ⊕ t₁ ⊕ t₂ ⊕ t₃) (a + b) (a' + b') D
  lower_torque i j k l = is_also (a + b) (a' + b') D i.pos (omega arith) (is_sum (is_sum (is_sum i j) k) l)

abbrev cell : ℕ → ℕ → Cell
cell i j = record { speed = i; torque = j }

module _ (speeds torques : List ℕ) (axes : RisingAxes speeds torques) (p : Point) (F : ℕ → ℕ → Fraction) where
  -- the sum in a cell, with F at the points of the grid
  unfoldable sum_at : ℕ → ℕ → Fraction
  sum_at i j = sum speeds torques p (cell i j) (corners F (cell i j))

  next_speed : (i j : ℕ) → Has speeds torques p (cell i j) → Has speeds torques p (cell (i + 1) j) → p.speed ≡ 10 * get_or speeds (i + 1) 0 → Same (sum_at i j) (sum_at (i + 1) j)
  unfolding sum_at sum index corners
  next_speed i j h h' e =
      let u = F (i + 1) j in
      let v = F (i + 1) (j + 1) in
      let d : ℕ = u.den * v.den in
      let pos : 0 < d = mul-pos u.above v.above in
      let Y : ℕ = 100 * get_or torques (j + 1) 0 - 100 * get_or torques j 0 in
      let high : 0 < Y = omega (arith, tall speeds torques axes p (cell i j) h) in
      let D : ℕ = Y * d in
      let Dpos : 0 < D = mul-pos high pos in
      let iu : Is u (u.plus * v.den) (u.minus * v.den) d = is_expanded v.den d pos refl (is_itself u) in
      let iv : Is v (v.plus * u.den) (v.minus * u.den) d = is_expanded u.den d pos (omega arith) (is_itself v) in
      same_is
      (upper_speed
      (zero_term (F i j) D Dpos (no_speed _ _ _ (omega arith) (is_weight speeds torques axes p (cell i j) h lower lower)))
      (zero_term (F i (j + 1)) D Dpos (no_speed _ _ _ (omega arith) (is_weight speeds torques axes p (cell i j) h lower upper)))
      (is_product (all_speed _ _ _ _ Y high (omega arith) (is_weight speeds torques axes p (cell i j) h upper lower)) iu)
      (is_product (all_speed _ _ _ _ Y high (omega arith) (is_weight speeds torques axes p (cell i j) h upper upper)) iv))
      (lower_speed
      (is_product (all_speed _ _ _ _ Y high (omega arith) (is_weight speeds torques axes p (cell (i + 1) j) h' lower lower)) iu)
      (is_product (all_speed _ _ _ _ Y high (omega arith) (is_weight speeds torques axes p (cell (i + 1) j) h' lower upper)) iv)
      (zero_term (F (i + 1 + 1) j) D Dpos (no_speed _ _ _ (omega arith) (is_weight speeds torques axes p (cell (i + 1) j) h' upper lower)))
      (zero_term (F (i + 1 + 1) (j + 1)) D Dpos (no_speed _ _ _ (omega arith) (is_weight speeds torques axes p (cell (i + 1) j) h' upper upper))))

  next_torque : (i j : ℕ) → Has speeds torques p (cell i j) → Has speeds torques p (cell i (j + 1)) → p.torque ≡ 100 * get_or torques (j + 1) 0 → Same (sum_at i j) (sum_at i (j + 1))
  unfolding sum_at sum index corners
  next_torque i j h h' e =
      let u = F i (j + 1) in
      let v = F (i + 1) (j + 1) in
      let d : ℕ = u.den * v.den in
      let pos : 0 < d = mul-pos u.above v.above in
      let X : ℕ = 10 * get_or speeds (i + 1) 0 - 10 * get_or speeds i 0 in
      let broad : 0 < X = omega (arith, wide speeds torques axes p (cell i j) h) in
      let D : ℕ = X * d in
      let Dpos : 0 < D = mul-pos broad pos in
      let up : 100 * get_or torques j 0 ≤ p.torque = omega (arith, tall speeds torques axes p (cell i j) h) in
      let iu : Is u (u.plus * v.den) (u.minus * v.den) d = is_expanded v.den d pos refl (is_itself u) in
      let iv : Is v (v.plus * u.den) (v.minus * u.den) d = is_expanded u.den d pos (omega arith) (is_itself v) in
      same_is
      (upper_torque
      (zero_term (F i j) D Dpos (no_torque _ _ _ (omega arith) (omega arith) (is_weight speeds torques axes p (cell i j) h lower lower)))
      (is_product (all_torque _ _ _ X _ broad (omega arith) (omega arith) (is_weight speeds torques axes p (cell i j) h lower upper)) iu)
      (zero_term (F (i + 1) j) D Dpos (no_torque _ _ _ (omega arith) (omega arith) (is_weight speeds torques axes p (cell i j) h upper lower)))
      (is_product (all_torque _ _ _ X _ broad (omega arith) (omega arith) (is_weight speeds torques axes p (cell i j) h upper upper)) iv))
      (lower_torque
      (is_product (all_torque _ _ _ X _ broad (omega arith) (omega (arith, h'.top)) (is_weight speeds torques axes p (cell i (j + 1)) h' lower lower)) iu)
      (zero_term (F i (j + 1 + 1)) D Dpos (no_torque _ _ _ (omega arith) (omega arith) (is_weight speeds torques axes p (cell i (j + 1)) h' lower upper)))
      (is_product (all_torque _ _ _ X _ broad (omega arith) (omega (arith, h'.top)) (is_weight speeds torques axes p (cell i (j + 1)) h' upper lower)) iv)
      (zero_term (F (i + 1) (j + 1 + 1)) D Dpos (no_torque _ _ _ (omega arith) (omega arith) (is_weight speeds torques axes p (cell i (j + 1)) h' upper upper))))

  to_speed : (j i i' : ℕ) → Has speeds torques p (cell i j) → Has speeds torques p (cell i' j) → Same (sum_at i j) (sum_at i' j)
  to_speed j = any_two (λ i. sum_at i j) (λ i. Has speeds torques p (cell i j)) (λ i i' l h h'.
      let n = neighbours speeds axes.speeds 10 p.speed (omega arith) i i' h'.speed_in h.upto h'.from l in
      rw n.0 (next_speed i j h (subst (λ k. Has speeds torques p (cell k j)) n.0 h') n.1))

  to_torque : (i j j' : ℕ) → Has speeds torques p (cell i j) → Has speeds torques p (cell i j') → Same (sum_at i j) (sum_at i j')
  to_torque i = any_two (sum_at i) (λ j. Has speeds torques p (cell i j)) (λ j j' l h h'.
      let b : 100 * get_or torques j' 0 ≤ p.torque = ⊎_elim (λ a. a) (λ e. absurd (omega arith)) h'.bottom in
      let n = neighbours torques axes.torques 100 p.torque (omega arith) j j' h'.torque_in h.top b l in
      rw n.0 (next_torque i j h (subst (λ k. Has speeds torques p (cell i k)) n.0 h') n.1))

  -- every two cells that have the point give the same sum
  pub same_sum : (k k' : Cell) → Has speeds torques p k → Has speeds torques p k' → Same (sum speeds torques p k (corners F k)) (sum speeds torques p k' (corners F k'))
  unfolding sum_at
  same_sum k k' h h' =
      let between : Has speeds torques p (cell k'.speed k.torque) = record {
        speed_in = h'.speed_in;
        torque_in = h.torque_in;
        from = h'.from;
        upto = h'.upto;
        bottom = h.bottom;
        top = h.top;
      } in
      same_trans (sum_at k.speed k.torque) (sum_at k'.speed k.torque) (sum_at k'.speed k'.torque)
      (to_speed k.torque k.speed k'.speed h between)
      (to_torque k'.speed k.torque k'.torque between h')
