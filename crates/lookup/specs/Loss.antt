-- Document 01, "Loss at a point and nearest point": the cell of a point, and the weighted sum of the entries at its corners, rounded up once.
use Rattle.std.specs.Prelude.{ℕ, zero, suc, ◌+◌, ◌-◌, ◌*◌, ◌<◌, Bool, ◌&&◌, cond, List, leb, ℤ, length, get_or}
use Rattle.arith.specs.Fraction.{whole}
use Rattle.refusal.specs.Outcome.{Outcome, accepted, ◌>>=◌, require}
use Rattle.grid.specs.Map.{counted_numbers, valid_map}
use Rattle.grid.specs.declared.Grid.{Grid}
use Rattle.cell.specs.Cell.{Cell, sum, corners, entry_at}
use Rattle.cell.specs.declared.Point.{Point}
use Rattle.cell.specs.Rounding.{ceiling}

-- the greatest index from 1 to n at which a test holds, or 0 where there is none
unfoldable pub last_up_to : (ℕ → Bool) → ℕ → ℕ
last_up_to test zero = 0
last_up_to test (suc n) = cond (test (suc n)) (suc n) (last_up_to test n)

-- each number is below the next
abbrev pub Rise : List ℕ → Type 0
Rise ns = (k : ℕ) → k + 1 < length ns → get_or ns k 0 < get_or ns (k + 1) 0

-- The lower neighbour of a value on an axis whose numbers count scale each: the last number at or below the value, but for the last of all; the first where the value is below all.
unfoldable pub neighbour : List ℕ → (scale v : ℕ) → ℕ
neighbour ns scale v = last_up_to (λ i. leb (scale * get_or ns i 0) v) (length ns - 2)

unfoldable pub cell_of : (speeds torques : List ℕ) → Point → Cell
cell_of speeds torques p = record { speed = neighbour speeds 10 p.speed; torque = neighbour torques 100 p.torque }

-- the loss at a point within the limits, in hundredths of Nm; under the lowest torque the line of the two lowest goes on
unfoldable pub loss_at : (speeds torques entries : List ℕ) → Point → ℤ
loss_at speeds torques entries p =
    let k = cell_of speeds torques p in
    ceiling (sum speeds torques p k (corners (λ i j. whole (entry_at (length torques) entries i j)) k))

-- the same on the axes of a grid
abbrev pub map_loss : Grid → (entries : List ℕ) → Point → ℤ
map_loss grid entries p = loss_at (counted_numbers grid.speeds) (counted_numbers grid.torques) entries p

-- 22 is tested first, then 20, then 21
unfoldable pub loss_answer : Grid → (entries : List ℕ) → Point → Outcome ℤ
loss_answer grid entries p =
    let speeds = counted_numbers grid.speeds in
    let torques = counted_numbers grid.torques in
    do
      _ ← require (valid_map grid entries) 22 0
      _ ← require (leb (10 * get_or speeds 0 0) p.speed && leb p.speed (10 * get_or speeds (length speeds - 1) 0)) 20 0
      _ ← require (leb p.torque (100 * get_or torques (length torques - 1) 0)) 21 0
      accepted (loss_at speeds torques entries p)
