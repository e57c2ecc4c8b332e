-- The drag is near the exact line of every segment that has the retarder speed. Assumes nothing.
use Rattle.std.proofs.Common.{◌≡◌, ℕ, ◌+◌, ◌*◌, ◌≤◌, ◌<◌, List, length, min, max, take, ap, sym, ◌∙◌, pos, arith}
use native.Mathlib.Nat.{mul-le-mul_left, le_of_mul-le-mul_right}
use Rattle.arith.specs.Quotient.{quotient_up, QuotientUp, quotient_up_law, quotient_up_least}
use Rattle.arith.specs.Fraction.{round_up}
use Rattle.arith.proofs.Quotients.{is_quotient_up}
use Rattle.arith.proofs.Fractions.{Is, is_whole, at_most}
use Rattle.arith.proofs.Rounding.{round_up_natural, round_up_rounds, round_up_same}
use Rattle.cell.proofs.Rounding.{rounds_up_unique}
use Rattle.lookup.specs.Loss.{neighbour}
use Rattle.retarder.specs.SpeedPoints.{speed_points, units_per_rpm, speed_point}
use Rattle.retarder.specs.Drag.{point_drag, exact_drag, drag_at}
use Rattle.retarder.specs.Laws.{WithinLimits, SpeedWithin, OnSegment, NearLine, DragAccurate}
use Rattle.retarder.proofs.Segments.{on_neighbour, width, numerator, is_exact, is_point, same_line}

-- a weighted sum of two numbers over the sum of the weights, rounded up, is between the two
between : (a b d e q D : ℕ) → a + b ≡ D → 0 < D → QuotientUp (a * d + b * e) D q → (min d e ≤ q) × (q ≤ max d e)
between a b d e q D s h u =
    let l : min d e ≤ d = omega arith in
    let l' : min d e ≤ e = omega arith in
    let g : d ≤ max d e = omega arith in
    let g' : e ≤ max d e = omega arith in (
      le_of_mul-le-mul_right {k = D} (omega (arith, u.not_below, ap (λ (n : ℕ). min d e * n) s, mul-le-mul_left a l, mul-le-mul_left b l')) h,
      quotient_up_least u (max d e) (omega (arith, ap (λ (n : ℕ). max d e * n) s, mul-le-mul_left a g, mul-le-mul_left b g')),
    )

module _ (readings bearing_losses : List ℕ) (most : length readings ≤ 13) (v i : ℕ) (s : OnSegment readings v i) where
  exact : Is (exact_drag readings bearing_losses v i) (numerator readings bearing_losses most v i) 0 (width i)
  exact = is_exact readings bearing_losses most v i s

  -- as the code reckons it
  pub rounded : round_up (exact_drag readings bearing_losses v i) ≡ quotient_up (numerator readings bearing_losses most v i) (width i)
  rounded = round_up_natural exact

  law : QuotientUp (numerator readings bearing_losses most v i) (width i) (round_up (exact_drag readings bearing_losses v i))
  law = rw rounded (quotient_up_law _ _ exact.pos)

  pub near_line : NearLine readings bearing_losses v i (round_up (exact_drag readings bearing_losses v i))
  near_line =
      let q = round_up (exact_drag readings bearing_losses v i) in
      let b = between _ _ (point_drag readings bearing_losses i) (point_drag readings bearing_losses (i + 1)) q _ (omega (arith, s.from, s.upto)) exact.pos law in
      record {
        rounded_up = round_up_rounds _ (at_most (is_whole 0) exact (omega arith));
        least = b.0;
        most = b.1;
      }

  -- at a speed point
  pub rounded_point : (k : ℕ) → k < length readings → v ≡ speed_point k → round_up (exact_drag readings bearing_losses v i) ≡ point_drag readings bearing_losses k
  rounded_point k l e =
      let d = point_drag readings bearing_losses k in
      let one : d ≡ quotient_up d 1 = is_quotient_up (omega arith) (record { not_below = omega arith; near = omega arith }) in
      round_up_natural (is_point readings bearing_losses most v i k s l e) ∙ sym one

-- the drag at a retarder speed within the speed points that have a reading
pub accurate : (readings bearing_losses : List ℕ) (ratio v : ℕ) → WithinLimits readings bearing_losses ratio → SpeedWithin readings v → DragAccurate readings bearing_losses v (drag_at readings bearing_losses v)
unfolding drag_at
accurate readings bearing_losses ratio v limits w =
    let j = neighbour (take (length readings) speed_points) units_per_rpm v in
    let s = on_neighbour readings limits.count_from limits.count_upto v w in
    let most = limits.count_upto in
    record {
      on_one = (j, s);
      near_each = λ i t. rw (round_up_same _ _ (same_line readings bearing_losses most v j i s t)) (near_line readings bearing_losses most v i t);
      same_line = same_line readings bearing_losses most v;
      on_point = λ k l e. rounded_point readings bearing_losses most v j s k l e;
    }

-- and the law leaves one answer, whatever else is promised
same_number : (a b : ℕ) → pos a ≡ pos b → a ≡ b
same_number a b e = cc

pub drag_unique : {readings bearing_losses : List ℕ} {v a b : ℕ} → DragAccurate readings bearing_losses v a → DragAccurate readings bearing_losses v b → a ≡ b
drag_unique {a = a} {b = b} p q =
    let i = p.on_one.0 in
    let s = p.on_one.1 in
    same_number a b (rounds_up_unique _ (pos a) (pos b) (p.near_each i s).rounded_up (q.near_each i s).rounded_up)
