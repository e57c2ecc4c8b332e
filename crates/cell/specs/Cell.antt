-- Document 01, "Loss at a point and nearest point" and "Accuracy over whole numbers": the cells that have a point, and the weights of their corners.
use Rattle.std.specs.Prelude.{ℕ, ◌+◌, ◌-◌, ◌*◌, ◌≤◌, ◌<◌, ◌≡◌, List, ◌⊎◌, length, get_or}
use Rattle.arith.specs.Fraction.{Fraction, ◌less◌over◌, ◌⊕◌, ◌⊗◌}
-- a query's point: speed in tenths of rpm, torque in hundredths of Nm
use Rattle.cell.specs.declared.Point.{Point}

-- the point is within the limits of a map with these speeds in rpm and torques in Nm
pub record Within (speeds torques : List ℕ) (p : Point) : Type 0 where
  pub from : 10 * get_or speeds 0 0 ≤ p.speed
  pub upto : p.speed ≤ 10 * get_or speeds (length speeds - 1) 0
  pub top : p.torque ≤ 100 * get_or torques (length torques - 1) 0

-- a cell, by the indices of its lower speed and its lower torque
pub record Cell : Type 0 where
  pub speed : ℕ
  pub torque : ℕ

-- The cell has the point. A point under the lowest torque is in the cells of the two lowest torques.
pub record Has (speeds torques : List ℕ) (p : Point) (k : Cell) : Type 0 where
  pub speed_in : k.speed + 1 < length speeds
  pub torque_in : k.torque + 1 < length torques
  pub from : 10 * get_or speeds k.speed 0 ≤ p.speed
  pub upto : p.speed ≤ 10 * get_or speeds (k.speed + 1) 0
  pub bottom : (100 * get_or torques k.torque 0 ≤ p.torque) ⊎ (k.torque ≡ 0)
  pub top : p.torque ≤ 100 * get_or torques (k.torque + 1) 0

-- the two sides of a cell along an axis
pub data Side : Type 0 where
  lower : Side
  upper : Side

-- one thing a corner, by its side in speed and its side in torque
abbrev pub Corners : Type 0 → Type 0
Corners A = Side → Side → A

-- the share of a side for a point at v, x and y being the numbers of the two sides
unfoldable pub share : (x y v : ℕ) → Side → Fraction
share x y v lower = y less v over (y - x)
share x y v upper = v less x over (y - x)

-- the weight of a corner: the product of its two shares
unfoldable pub weight : (speeds torques : List ℕ) → Point → Cell → Corners Fraction
weight speeds torques p k s t =
    share (10 * get_or speeds k.speed 0) (10 * get_or speeds (k.speed + 1) 0) p.speed s
    ⊗ share (100 * get_or torques k.torque 0) (100 * get_or torques (k.torque + 1) 0) p.torque t

-- what stands at the four corners, weighted and added
unfoldable pub sum : (speeds torques : List ℕ) → Point → Cell → Corners Fraction → Fraction
sum speeds torques p k f =
    let w = weight speeds torques p k in
    w lower lower ⊗ f lower lower ⊕ w lower upper ⊗ f lower upper ⊕ w upper lower ⊗ f upper lower ⊕ w upper upper ⊗ f upper upper

-- at the corners of a cell, what is given at the indices of the grid
unfoldable pub index : ℕ → Side → ℕ
index n lower = n
index n upper = n + 1

unfoldable pub corners : {A : Type 0} → (ℕ → ℕ → A) → Cell → Corners A
corners at k s t = at (index k.speed s) (index k.torque t)

-- the entry of a point of the grid, in entries that have each speed's row after the other
abbrev pub entry_at : (torque_count : ℕ) → List ℕ → ℕ → ℕ → ℕ
entry_at torque_count entries speed torque = get_or entries (speed * torque_count + torque) 0
