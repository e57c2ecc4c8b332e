-- Document 01, "Loss at a point and nearest point": the nearest number of each axis by itself, the lower one where two are equally near.
use Rattle.std.specs.Prelude.{ℕ, zero, suc, ◌+◌, ◌-◌, ◌*◌, cond, List, ltb, length, get_or}
use Rattle.refusal.specs.Outcome.{Outcome, accepted, ◌>>=◌, require}
use Rattle.grid.specs.Map.{counted_numbers, valid_grid}
use Rattle.grid.specs.declared.Grid.{Grid}
use Rattle.cell.specs.declared.Point.{Point}
pub use Rattle.lookup.specs.declared.GridPoint.{GridPoint}

-- how far a number is from a value; one of the two differences is 0
abbrev pub distance : ℕ → ℕ → ℕ
distance n v = (n - v) + (v - n)

-- the index of the nearest of the first count numbers, each times scale: the lowest of those that are equally near
unfoldable pub nearest_index : List ℕ → (scale v count : ℕ) → ℕ
nearest_index ns scale v zero = 0
nearest_index ns scale v (suc i) =
    let best = nearest_index ns scale v i in
    cond (ltb (distance (scale * get_or ns i 0) v) (distance (scale * get_or ns best 0) v)) i best

-- the nearest axis number; speeds count ten tenths of rpm each, torques a hundred hundredths of Nm
unfoldable pub nearest_number : List ℕ → (scale v : ℕ) → ℕ
nearest_number ns scale v = get_or ns (nearest_index ns scale v (length ns)) 0

-- the nearest point of a grid
abbrev pub nearest_point : Grid → Point → GridPoint
nearest_point grid p = record {
  speed = nearest_number (counted_numbers grid.speeds) 10 p.speed;
  torque = nearest_number (counted_numbers grid.torques) 100 p.torque;
}

-- 22 where an axis breaks its rules; no entry is asked for
unfoldable pub nearest_answer : Grid → Point → Outcome GridPoint
nearest_answer grid p = do
  _ ← require (valid_grid grid) 22 0
  accepted (nearest_point grid p)
