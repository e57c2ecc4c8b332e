-- The segments between speed points, and the exact drag on one. Assumes nothing.
use Rattle.std.proofs.Common.{◌≡◌, ℕ, ◌+◌, ◌-◌, ◌*◌, ◌≤◌, ◌<◌, ltb, List, length, get_or, take, ap, arith}
use Rattle.std.proofs.lemmas.List.{get_or-take, length-take-le}
use native.Mathlib.Decide.{dec_lt}
use borrow.Author.Tests.{ltb-true}
use Rattle.arith.specs.Fraction.{whole, ◌⊕◌, ◌⊗◌, Same}
use Rattle.arith.proofs.Fractions.{Is, is_less, is_whole, is_also, is_subtracted, is_sum, is_natural_product}
use Rattle.grid.proofs.Every.{every_at}
use Rattle.cell.specs.Cell.{lower, upper, share}
use Rattle.lookup.specs.Loss.{neighbour}
use Rattle.lookup.proofs.Axes.{Rising, rise_lt, neighbour_in, neighbour_low, neighbour_high}
use Rattle.lookup.proofs.Lines.{any_two, neighbours, same_is}
use Rattle.retarder.specs.SpeedPoints.{speed_points, speed_points_rise, units_per_rpm, speed_point}
use Rattle.retarder.specs.Drag.{point_drag, exact_drag}
use Rattle.retarder.specs.Laws.{SpeedWithin, OnSegment}

-- each speed point is below the next
rises : (i : ℕ) → i < 12 → get_or speed_points i 0 < get_or speed_points (i + 1) 0
rises i l = ltb-true _ _ (every_at (λ k. ltb (get_or speed_points k 0) (get_or speed_points (k + 1) 0)) 12 speed_points_rise i l)

rising : Rising speed_points
rising = record { two = omega arith; rises = λ k l. rises k (omega (arith, l)) }

-- ---- the segment of a retarder speed

-- of a retarder speed within the speed points that have a reading, the segment from its lower neighbour has it
module _ (readings : List ℕ) (two : 2 ≤ length readings) (most : length readings ≤ 13) where
  counted : length (take (length readings) speed_points) ≡ length readings
  counted = length-take-le (length readings) speed_points most

  of_first : (i : ℕ) → i < length readings → get_or (take (length readings) speed_points) i 0 ≡ get_or speed_points i 0
  of_first i l = get_or-take (length readings) speed_points i 0 l

  first_rising : Rising (take (length readings) speed_points)
  first_rising = record {
    two = omega (arith, counted);
    rises = λ k l.
        let h : k + 1 < length readings = omega (arith, counted) in
        let g : k < length readings = omega arith in
        rw (of_first k g, of_first (k + 1) h) (rises k (omega arith));
  }

  pub on_neighbour : (v : ℕ) → SpeedWithin readings v → OnSegment readings v (neighbour (take (length readings) speed_points) units_per_rpm v)
  on_neighbour v w =
      let ns = take (length readings) speed_points in
      let i = neighbour ns units_per_rpm v in
      let h : i + 1 < length readings = omega (arith, neighbour_in ns units_per_rpm v first_rising, counted) in
      let g : i < length readings = omega arith in
      record {
        readings_there = h;
        from = rw (← of_first i g) (neighbour_low ns units_per_rpm v first_rising (rw (of_first 0 (omega arith)) w.from));
        upto = rw (← of_first (i + 1) h) (neighbour_high ns units_per_rpm v first_rising (rw (counted, of_first (length readings - 1) (omega arith)) w.upto));
      }

-- ---- the exact drag, by its numbers

-- on the line through d at x and e at y, at v between them
on_line : (x y v d e : ℕ) → x < y → x ≤ v → v ≤ y → Is (share x y v lower ⊗ whole d ⊕ share x y v upper ⊗ whole e) ((y - v) * d + (v - x) * e) 0 (y - x)
unfolding share
on_line x y v d e h a b =
    let D : 0 < y - x = omega arith in
    let i = is_natural_product (is_subtracted b (is_less y v (y - x) D)) (is_whole d) in
    let j = is_natural_product (is_subtracted a (is_less v x (y - x) D)) (is_whole e) in
    is_sum (is_also ((y - v) * d) 0 (y - x) D (omega arith) i) (is_also ((v - x) * e) 0 (y - x) D (omega arith) j)

-- how long a segment is
abbrev pub width : ℕ → ℕ
width i = speed_point (i + 1) - speed_point i

module _ (readings bearing_losses : List ℕ) (most : length readings ≤ 13) (v : ℕ) where
  abbrev d : ℕ → ℕ
  d = point_drag readings bearing_losses

  -- the numerator of the exact drag, over that length
  abbrev pub numerator : ℕ → ℕ
  numerator i = (speed_point (i + 1) - v) * d i + (v - speed_point i) * d (i + 1)

  pub is_exact : (i : ℕ) → OnSegment readings v i → Is (exact_drag readings bearing_losses v i) (numerator i) 0 (width i)
  unfolding exact_drag
  is_exact i s = on_line _ _ v _ _ (omega (arith, rises i (omega (arith, s.readings_there)))) s.from s.upto

  -- at the ends of a segment it is the drag there
  is_lower : (i : ℕ) → OnSegment readings v i → v ≡ speed_point i → Is (exact_drag readings bearing_losses v i) (d i) 0 1
  is_lower i s e =
      let n : v - speed_point i ≡ 0 = omega arith in
      let w : speed_point (i + 1) - v ≡ width i = omega arith in
      is_also (d i) 0 1 (omega arith) (omega (arith, ap (λ (k : ℕ). k * d i) w, ap (λ (k : ℕ). k * d (i + 1)) n)) (is_exact i s)

  is_upper : (i : ℕ) → OnSegment readings v i → v ≡ speed_point (i + 1) → Is (exact_drag readings bearing_losses v i) (d (i + 1)) 0 1
  is_upper i s e =
      let n : speed_point (i + 1) - v ≡ 0 = omega arith in
      let w : v - speed_point i ≡ width i = omega arith in
      is_also (d (i + 1)) 0 1 (omega arith) (omega (arith, ap (λ (k : ℕ). k * d i) n, ap (λ (k : ℕ). k * d (i + 1)) w)) (is_exact i s)

  -- at a speed point
  pub is_point : (i k : ℕ) → OnSegment readings v i → k < length readings → v ≡ speed_point k → Is (exact_drag readings bearing_losses v i) (d k) 0 1
  is_point i k s l e = go (dec_lt k (i + 1)) (dec_lt i k)
    where
      go : Dec (k < i + 1) → Dec (i < k) → Is (exact_drag readings bearing_losses v i) (d k) 0 1
      go (yes a) (yes b) = absurd (omega arith)
      go (yes a) (no b) = at_lower (dec_lt k i)
        where
          at_lower : Dec (k < i) → Is (exact_drag readings bearing_losses v i) (d k) 0 1
          at_lower (yes m) = absurd (omega (arith, s.from, rise_lt speed_points rising k i m (omega (arith, s.readings_there))))
          at_lower (no m) = let same : k ≡ i = omega arith in rw same (is_lower i s (rw same at e))
      go (no a) b = at_upper (dec_lt (i + 1) k)
        where
          at_upper : Dec (i + 1 < k) → Is (exact_drag readings bearing_losses v i) (d k) 0 1
          at_upper (yes m) = absurd (omega (arith, s.upto, rise_lt speed_points rising (i + 1) k m (omega arith)))
          at_upper (no m) = let same : k ≡ i + 1 = omega arith in rw same (is_upper i s (rw same at e))

  -- two segments that have v have one exact drag
  pub same_line : (i j : ℕ) → OnSegment readings v i → OnSegment readings v j → Same (exact_drag readings bearing_losses v i) (exact_drag readings bearing_losses v j)
  same_line =
      any_two (λ i. exact_drag readings bearing_losses v i) (λ i. OnSegment readings v i)
      (λ i j l a b.
      let n = neighbours speed_points rising units_per_rpm v (omega arith) i j (omega (arith, b.readings_there)) a.upto b.from l in
      let e : v ≡ speed_point j = rw n.0 n.1 in
      same_is (is_upper i a n.1) (rw (← n.0) (is_lower j b e)))
