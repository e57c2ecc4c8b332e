-- A question to a map is answered exactly when no refusal applies: 22, 20 and 21, in this order, said of each number.
use Rattle.std.specs.Prelude.{ℕ, ◌-◌, ◌*◌, ◌≤◌, ◌<◌, ◌≡◌, List, ◌⊎◌, ℤ, length, get_or}
use Rattle.refusal.specs.Outcome.{Told, refusal, accepted, refused}
use Rattle.grid.specs.Map.{counted_numbers}
use Rattle.grid.specs.Rules.{GridRules, MapRules}
use Rattle.grid.specs.declared.Grid.{Grid}
use Rattle.cell.specs.Cell.{Within}
use Rattle.cell.specs.declared.Point.{Point}
use Rattle.lookup.specs.Loss.{loss_at, loss_answer}
use Rattle.lookup.specs.Nearest.{GridPoint, nearest_point, nearest_answer}

-- the ends of the axes, in the units of a query
abbrev pub lowest_speed : Grid → ℕ
lowest_speed grid = 10 * get_or (counted_numbers grid.speeds) 0 0

abbrev pub highest_speed : Grid → ℕ
highest_speed grid = 10 * get_or (counted_numbers grid.speeds) (length (counted_numbers grid.speeds) - 1) 0

abbrev pub highest_torque : Grid → ℕ
highest_torque grid = 100 * get_or (counted_numbers grid.torques) (length (counted_numbers grid.torques) - 1) 0

-- why a query is refused: the condition of its row of the table, those of the rows tested before not holding
pub data QueryFault (grid : Grid) (entries : List ℕ) (p : Point) (told : Told) : Type 0 where
  -- 22: what is lent is no map
  not_a_map : (MapRules grid entries → ⊥) → told ≡ refusal 22 0 → QueryFault grid entries p told
  -- 20: the speed is outside its axis
  speed_outside : MapRules grid entries → (p.speed < lowest_speed grid) ⊎ (highest_speed grid < p.speed) → told ≡ refusal 20 0 → QueryFault grid entries p told
  -- 21: the torque is above its axis
  torque_above : MapRules grid entries → lowest_speed grid ≤ p.speed → p.speed ≤ highest_speed grid → highest_torque grid < p.torque → told ≡ refusal 21 0
      → QueryFault grid entries p told

-- a loss is answered exactly within the limits of a map, and is the one of the definition; it is refused exactly for its reason
pub record LossDecided (grid : Grid) (entries : List ℕ) (p : Point) : Type 0 where
  pub answered : MapRules grid entries → Within (counted_numbers grid.speeds) (counted_numbers grid.torques) p
      → loss_answer grid entries p ≡ accepted (loss_at (counted_numbers grid.speeds) (counted_numbers grid.torques) entries p)
  pub answered_only : (z : ℤ) → loss_answer grid entries p ≡ accepted z
      → MapRules grid entries × Within (counted_numbers grid.speeds) (counted_numbers grid.torques) p × (z ≡ loss_at (counted_numbers grid.speeds) (counted_numbers grid.torques) entries p)
  pub refused_for : (told : Told) → QueryFault grid entries p told → loss_answer grid entries p ≡ refused told
  pub refused_only : (told : Told) → loss_answer grid entries p ≡ refused told → QueryFault grid entries p told

-- the nearest point is answered exactly where both axes keep their rules, and 22 is said where they do not
pub record NearestDecided (grid : Grid) (p : Point) : Type 0 where
  pub answered : GridRules grid → nearest_answer grid p ≡ accepted (nearest_point grid p)
  pub answered_only : (q : GridPoint) → nearest_answer grid p ≡ accepted q → GridRules grid × (q ≡ nearest_point grid p)
  pub refused_for : (GridRules grid → ⊥) → nearest_answer grid p ≡ refused (refusal 22 0)
  pub refused_only : (told : Told) → nearest_answer grid p ≡ refused told → (GridRules grid → ⊥) × (told ≡ refusal 22 0)

-- whatever is lent and whatever is asked
pub record QueriesDecided : Type 0 where
  pub loss : (grid : Grid) (entries : List ℕ) (p : Point) → LossDecided grid entries p
  pub nearest : (grid : Grid) (p : Point) → NearestDecided grid p
