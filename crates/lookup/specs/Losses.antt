-- The losses at many points of a map, asked in one call.
use Rattle.std.specs.Prelude.{ℕ, ◌≤◌, ◌<◌, ◌≡◌, List, leb, ℤ, pos, length, get_or, Result, Ok, Err}
use Rattle.refusal.specs.Outcome.{Told, refusal, refusal_with_index, Outcome, accepted, refused, ◌>>=◌, require, first_refusal}
use Rattle.refusal.specs.Table.{number, place}
use Rattle.grid.specs.Lists.{tabulate, overwritten}
use Rattle.grid.specs.Map.{counted_numbers, valid_map}
use Rattle.grid.specs.Rules.{MapRules}
use Rattle.grid.specs.declared.Grid.{Grid}
use Rattle.cell.specs.Cell.{Within}
use Rattle.cell.specs.declared.Point.{Point}
use Rattle.lookup.specs.Loss.{map_loss, loss_answer}
use Rattle.lookup.specs.Acceptance.{QueryFault}
use Rattle.lookup.specs.declared.LossesRefusal.{LossesRefusal}

-- ---- the answer

-- point i, from 0; past the last of them any will do
abbrev pub point_at : List Point → (i : ℕ) → Point
point_at points i = get_or points i (record { speed = 0; torque = 0 })

-- of a question about point i, whether it is refused; then its refusal has the point's index
abbrev pub of_point : {A : Type 0} → (i : ℕ) → Outcome A → Outcome (Unit {0})
of_point i (accepted loss) = accepted tt
of_point i (refused t) = refused (refusal_with_index t.number t.place i)

abbrev pub point_check : Grid → (entries : List ℕ) → List Point → (i : ℕ) → Outcome (Unit {0})
point_check grid entries points i = of_point i (loss_answer grid entries (point_at points i))

-- the loss at each point, in their order
abbrev pub point_losses : Grid → (entries : List ℕ) → List Point → List ℤ
point_losses grid entries points = tabulate (λ i. map_loss grid entries (point_at points i)) (length points)

-- 22 is tested first, then 11, then the points in their order, each as one question is: the first that is refused ends it
unfoldable pub losses_answer : Grid → (entries : List ℕ) → List Point → (room : ℕ) → Outcome (List ℤ)
losses_answer grid entries points room = do
  _ ← require (valid_map grid entries) 22 0
  _ ← require (leb (length points) room) 11 (length points)
  _ ← first_refusal (point_check grid entries points) 0 (length points)
  accepted (point_losses grid entries points)

-- ---- what a call leaves

-- what an answer says in the table's terms, the index being that of the point
abbrev pub told_of_point : LossesRefusal → Told
told_of_point r = record { number = number r.refusal; place = place r.refusal; index = r.point }

abbrev pub losses_outcome : Result (Unit {0}) LossesRefusal → Outcome (Unit {0})
losses_outcome (Ok nothing) = accepted tt
losses_outcome (Err r) = refused (told_of_point r)

-- whether there are losses, without them
abbrev pub without_losses : Outcome (List ℤ) → Outcome (Unit {0})
without_losses (accepted losses) = accepted tt
without_losses (refused t) = refused t

-- the lent losses at exit: as they were where the call is refused, else with the answer's in place of the first ones
abbrev pub losses_after : Outcome (List ℤ) → (before : List ℤ) → List ℤ
losses_after (accepted losses) before = overwritten losses before
losses_after (refused t) before = before

-- the whole answer, and the whole content of the lent losses
pub record LeavesLosses (o : Outcome (List ℤ)) (before after : List ℤ) (r : Result (Unit {0}) LossesRefusal) : Type 0 where
  pub outcome : losses_outcome r ≡ without_losses o
  pub written : after ≡ losses_after o before

-- ---- laws

-- at each point the loss is the one that a single question gives
abbrev pub EachLoss : Grid → (entries : List ℕ) → List Point → (losses : List ℤ) → Type 0
EachLoss grid entries points losses =
    (i : ℕ) → i < length points → loss_answer grid entries (point_at points i) ≡ accepted (get_or losses i (pos 0))

-- the point is within the limits of the map
abbrev pub WithinMap : Grid → Point → Type 0
WithinMap grid p = Within (counted_numbers grid.speeds) (counted_numbers grid.torques) p

-- why many questions are refused: the condition of the refusal, those of the refusals tested before not holding
pub data LossesFault (grid : Grid) (entries : List ℕ) (points : List Point) (room : ℕ) (t : Told) : Type 0 where
  -- 22: what is lent is no map
  not_a_map : (MapRules grid entries → ⊥) → t ≡ refusal 22 0 → LossesFault grid entries points room t
  -- 11: there is room for fewer losses than there are points
  no_room : MapRules grid entries → room < length points → t ≡ refusal 11 (length points) → LossesFault grid entries points room t
  -- 20 and 21, of point i: the points before it are within the limits
  point_refused : (i : ℕ) → (one : Told) → MapRules grid entries → length points ≤ room → i < length points
      → ((k : ℕ) → k < i → WithinMap grid (point_at points k)) → QueryFault grid entries (point_at points i) one
      → t ≡ refusal_with_index one.number one.place i → LossesFault grid entries points room t

-- many questions are answered exactly where each point is within the limits of a map and there is room for all losses; they are refused exactly for their reason
pub record LossesDecided (grid : Grid) (entries : List ℕ) (points : List Point) (room : ℕ) : Type 0 where
  pub answered : MapRules grid entries → length points ≤ room → ((i : ℕ) → i < length points → WithinMap grid (point_at points i))
      → losses_answer grid entries points room ≡ accepted (point_losses grid entries points)
  pub answered_only : (losses : List ℤ) → losses_answer grid entries points room ≡ accepted losses
      → MapRules grid entries × (length points ≤ room) × ((i : ℕ) → i < length points → WithinMap grid (point_at points i)) × (losses ≡ point_losses grid entries points)
  pub refused_for : (t : Told) → LossesFault grid entries points room t → losses_answer grid entries points room ≡ refused t
  pub refused_only : (t : Told) → losses_answer grid entries points room ≡ refused t → LossesFault grid entries points room t
