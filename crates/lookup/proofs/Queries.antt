-- What a query answers, and that any cell that has the point gives the same. Assumes nothing.
use Prim.Native.Nat.{ℕ, ◌-◌, ◌*◌, ◌≤◌, ◌<◌}
use mathlib.Core.Path.{◌≡◌, sym}
use mathlib.Core.Bool.{true, false, ◌&&◌}
use mathlib.Core.List.{List}
use mathlib.Core.Logic.{◌⊎◌, inl, inr}
use borrow.Author.Tests.{le-leb, lt-leb, leb-true}
use lib.Dec.{leb}
use lib.IntN.{ℤ}
use lib.ListN.{length, get_or}
use Rattle.arith.specs.Fraction.{whole, RoundsUp}
use Rattle.arith.proofs.Fractions.{rounds_up_same}
use Rattle.refusal.specs.Outcome.{accepted, refuse, ◌>>=◌, require}
use Rattle.refusal.proofs.Steps.{test_accepted, same_value}
use Rattle.grid.proofs.Every.{and_false, and_fst, and_snd}
use Rattle.grid.specs.Axis.{valid_numbers}
use Rattle.grid.specs.Map.{counted_numbers, valid_speeds, valid_grid, valid_map}
use Rattle.grid.specs.declared.Grid.{Grid}
use Rattle.cell.specs.Cell.{Within, Cell, Has, sum, corners, entry_at}
use Rattle.cell.specs.declared.Point.{Point}
use Rattle.lookup.specs.Loss.{cell_of, loss_at, loss_answer}
use Rattle.lookup.proofs.Axes.{RisingAxes, cell_has}
use Rattle.cell.proofs.Rounding.{ceiling_rounds}
use Rattle.lookup.proofs.Lines.{same_sum}

-- in every cell that has the point, the loss is the weighted sum of the entries at the corners, rounded up once
pub loss_rounds : (speeds torques entries : List ℕ) → RisingAxes speeds torques → (p : Point) → Within speeds torques p → (k : Cell) → Has speeds torques p k →
    RoundsUp (sum speeds torques p k (corners (λ i j. whole (entry_at (length torques) entries i j)) k)) (loss_at speeds torques entries p)
unfolding loss_at
loss_rounds speeds torques entries axes p w k h =
    let e = same_sum speeds torques axes p (λ i j. whole (entry_at (length torques) entries i j)) (cell_of speeds torques p) k (cell_has speeds torques axes p w) h in
    rounds_up_same _ _ _ e.0 e.1 (ceiling_rounds _)

module _ (grid : Grid) (entries : List ℕ) (p : Point) where
  -- what is lent is no map
  pub map_refused : valid_map grid entries ≡ false → loss_answer grid entries p ≡ refuse 22 0
  unfolding loss_answer
  map_refused e = rw e

  -- nor are axes with no number, as a refused build leaves them
  pub no_axes_refused : grid.speeds.count ≡ 0 → loss_answer grid entries p ≡ refuse 22 0
  unfolding valid_map valid_grid valid_speeds valid_numbers
  no_axes_refused e = map_refused (rw e)

  module _ (valid : valid_map grid entries ≡ true) where
    -- the speed is outside its axis
    pub speed_refused : (p.speed < 10 * get_or (counted_numbers grid.speeds) 0 0) ⊎ (10 * get_or (counted_numbers grid.speeds) (length (counted_numbers grid.speeds) - 1) 0 < p.speed) → loss_answer grid entries p ≡ refuse 20 0
    unfolding loss_answer
    speed_refused (inl l) = rw (valid, lt-leb _ _ l)
    speed_refused (inr l) =
        let first = leb (10 * get_or (counted_numbers grid.speeds) 0 0) p.speed in
        let last = 10 * get_or (counted_numbers grid.speeds) (length (counted_numbers grid.speeds) - 1) 0 in
        let e : leb p.speed last ≡ false = lt-leb p.speed last l in
        rw (valid, e, and_false first)

    -- the torque is above its axis
    pub torque_refused : 10 * get_or (counted_numbers grid.speeds) 0 0 ≤ p.speed → p.speed ≤ 10 * get_or (counted_numbers grid.speeds) (length (counted_numbers grid.speeds) - 1) 0 → 100 * get_or (counted_numbers grid.torques) (length (counted_numbers grid.torques) - 1) 0 < p.torque → loss_answer grid entries p ≡ refuse 21 0
    unfolding loss_answer
    torque_refused a b l = rw (valid, le-leb _ _ a, le-leb _ _ b, lt-leb _ _ l)

    -- every query within the limits is answered
    pub loss_answered : Within (counted_numbers grid.speeds) (counted_numbers grid.torques) p → loss_answer grid entries p ≡ accepted (loss_at (counted_numbers grid.speeds) (counted_numbers grid.torques) entries p)
    unfolding loss_answer
    loss_answered w = rw (valid, le-leb _ _ w.from, le-leb _ _ w.upto, le-leb _ _ w.top)

  -- an answer is the loss at a point within the limits of a map
  pub answered_within : (z : ℤ) → loss_answer grid entries p ≡ accepted z →
      (valid_map grid entries ≡ true) × Within (counted_numbers grid.speeds) (counted_numbers grid.torques) p × (z ≡ loss_at (counted_numbers grid.speeds) (counted_numbers grid.torques) entries p)
  unfolding loss_answer
  answered_within z e =
      let speeds = counted_numbers grid.speeds in
      let torques = counted_numbers grid.torques in
      let first = leb (10 * get_or speeds 0 0) p.speed in
      let last = leb p.speed (10 * get_or speeds (length speeds - 1) 0) in
      let top = leb p.torque (100 * get_or torques (length torques - 1) 0) in
      let a = test_accepted (valid_map grid entries) 22 0 (require (first && last) 20 0 >>= λ _. (require top 21 0 >>= λ _. accepted (loss_at speeds torques entries p))) z e in
      let b = test_accepted (first && last) 20 0 (require top 21 0 >>= λ _. accepted (loss_at speeds torques entries p)) z a.1 in
      let c = test_accepted top 21 0 (accepted (loss_at speeds torques entries p)) z b.1 in (
        a.0,
        record {
          from = leb-true _ _ (and_fst first last b.0);
          upto = leb-true _ _ (and_snd first last b.0);
          top = leb-true _ _ c.0;
        },
        sym (same_value _ _ c.1),
      )
