-- A sensor's numbers: one number in its range or out of it, and the index of the first that is out of it. Assumes nothing.
use Prim.Native.Nat.{ℕ, zero, suc, ◌+◌, ◌<◌, zero-le}
use mathlib.Core.Path.{◌≡◌, refl, sym, ap, ◌∙◌}
use mathlib.Core.Bool.{Bool, true, false, not, cond}
use mathlib.Core.List.{List, [], ◌∷◌}
use native.Mathlib.Omega.{arith}
use native.Mathlib.Decide.{dec_lt}
use lib.Dec.{ltb}
use lib.ListN.{length, get_or, drop}
use lib.Seq.{drop-cons, drop-length}
use Rattle.std.specs.Prelude.{Some, None}
use Rattle.std.specs.List.{position, position_or_len, zip}
use Rattle.std.proofs.lemmas.Bool.{lt-ltb, le-ltb, not-true, not-false}
use Rattle.std.proofs.lemmas.List.Sums.{fails_before_first, passes_at_first}
use Rattle.std.proofs.lemmas.Slice.Zip.{length-zip, get_or-zip}
use Rattle.refusal.specs.Outcome.{Told, refusal_with_index, accepted, refused, first_refusal, without_place}
use Rattle.refusal.proofs.Steps.{then_accepted, placed_accepted, require_accepted, require_refused}
use Rattle.refusal.proofs.First.{first_all, first_found, first_of, first_refused}
use Rattle.grid.specs.Axis.{within, ◌to◌}
use Rattle.grid.specs.Rules.{InRange}
use Rattle.grid.specs.declared.Range.{Range}
use Rattle.grid.proofs.AxisLaws.{in_range, within_range}
use Rattle.sensor.specs.Sensor.{sensor_ranges, SensorRules, AllSensorRules, sensor_number_check, sensor_check, sensors_check, sensor_of, sensor_numbers}
use Rattle.sensor.specs.Fault.{sensor_fault_of}
use Rattle.sensor.specs.declared.Sensor.{Sensor}

-- a number beside its range, which it is not in
abbrev pub outside : ℕ × Range → Bool
outside pair = not (within pair.1 pair.0)

module _ (ns : List ℕ) (nine : length ns ≡ 9) where
  pairs : List (ℕ × Range)
  pairs = zip ns sensor_ranges

  nine_pairs : length pairs ≡ 9
  unfolding pairs
  nine_pairs = length-zip ns sensor_ranges ∙ rw nine refl

  pair_at : (i : ℕ) → i < 9 → outside (get_or pairs i (0, 0 to 0)) ≡ not (within (get_or sensor_ranges i (0 to 0)) (get_or ns i 0))
  unfolding pairs
  pair_at i l = ap outside (get_or-zip ns sensor_ranges i (0, 0 to 0) (omega arith) (omega arith))

  inside : (i : ℕ) → i < 9 → outside (get_or pairs i (0, 0 to 0)) ≡ false → sensor_number_check ns i ≡ accepted tt
  unfolding sensor_number_check
  inside i l e = rw (not-false _ (sym (pair_at i l) ∙ e))

  refused_at : (i : ℕ) → i < 9 → outside (get_or pairs i (0, 0 to 0)) ≡ true → sensor_number_check ns i ≡ refused (refusal_with_index 32 i i)
  unfolding sensor_number_check
  refused_at i l e = rw (not-true _ (sym (pair_at i l) ∙ e))

  at_first : (i : ℕ) → ((k : ℕ) → k < i → k < 9 → sensor_number_check ns k ≡ accepted tt) → (i < 9 → sensor_number_check ns i ≡ refused (refusal_with_index 32 i i)) → Dec (i < 9)
      → sensor_fault_of (cond (ltb i 9) (Some i) None) ≡ sensor_check ns
  unfolding sensor_check
  at_first i passed stops (yes l) = rw (lt-ltb i 9 l) (sym (first_refused (sensor_number_check ns) 9 i _ l (λ k q. passed k q (omega arith)) (stops l)))
  at_first i passed stops (no l) = rw (le-ltb i 9 (omega arith)) (sym (first_of (sensor_number_check ns) 9 (λ k q. passed k (omega arith) q)))

  -- the index of the first number that is not in its range is what the check of all says
  pub first_outside : sensor_fault_of (position outside (zip ns sensor_ranges)) ≡ sensor_check ns
  unfolding pairs
  first_outside = rw nine_pairs (at_first (position_or_len outside pairs)
      (λ k q l. inside k l (fails_before_first outside pairs k _ q))
      (λ l. refused_at _ l (passes_at_first outside pairs _ (rw nine_pairs l)))
      (dec_lt _ _))

-- the index of a number out of its range is one of the nine
pub index_below : (ns : List ℕ) (i : ℕ) → refused (refusal_with_index 32 i i) ≡ sensor_check ns → i < 9
unfolding sensor_check sensor_number_check
index_below ns i e =
    let s = first_found (sensor_number_check ns) 0 9 _ (sym e) in
    let p = (require_refused (within (get_or sensor_ranges s.at (0 to 0)) (get_or ns s.at 0)) (refusal_with_index 32 s.at s.at) _ s.here).1 in
    omega (arith, ap (λ (t : Told). t.place) p, s.below)

-- ---- numbers that are accepted keep the rules of a sensor, and back
pub sensor_rules : (ns : List ℕ) → sensor_check ns ≡ accepted tt → SensorRules (sensor_of ns)
unfolding sensor_check sensor_number_check
sensor_rules ns e = record {
  nominal = here 0 (omega arith);
  sensitivity = here 1 (omega arith);
  zero = here 2 (omega arith);
  calibration = here 3 (omega arith);
  advancement = here 4 (omega arith);
  parasitic = here 5 (omega arith);
  share = here 6 (omega arith);
  difference = here 7 (omega arith);
  span = here 8 (omega arith);
}
  where
    here : (k : ℕ) → k < 9 → InRange (get_or sensor_ranges k (0 to 0)) (get_or ns k 0)
    here k l = in_range _ (get_or ns k 0) (require_accepted _ _ (first_all (sensor_number_check ns) 0 9 e k zero-le (omega arith)))

pub sensor_accepted : (s : Sensor) → SensorRules s → sensor_check (sensor_numbers s) ≡ accepted tt
unfolding sensor_check sensor_number_check first_refusal
sensor_accepted s r =
    rw (
      within_range _ _ r.nominal,
      within_range _ _ r.sensitivity,
      within_range _ _ r.zero,
      within_range _ _ r.calibration,
      within_range _ _ r.advancement,
      within_range _ _ r.parasitic,
      within_range _ _ r.share,
      within_range _ _ r.difference,
      within_range _ _ r.span,
    )

-- the same of sensors that are handed over
pub sensors_right : (sensors : List Sensor) → sensors_check sensors ≡ accepted tt → AllSensorRules sensors
unfolding sensors_check
sensors_right [] e = tt
sensors_right (sensor ∷ sensors) e =
    let first = then_accepted (without_place (sensor_check (sensor_numbers sensor))) _ tt e in
    (sensor_rules (sensor_numbers sensor) (placed_accepted _ _ tt first.1), sensors_right sensors first.2)

pub sensors_accepted : (sensors : List Sensor) → AllSensorRules sensors → sensors_check sensors ≡ accepted tt
unfolding sensors_check
sensors_accepted [] r = refl
sensors_accepted (sensor ∷ sensors) r = rw (sensor_accepted sensor r.0, sensors_accepted sensors r.1)

-- ---- nine numbers are those of the sensor that they say
-- the numbers of a list, as many as there are, from an index on
listed : List ℕ → ℕ → ℕ → List ℕ
listed ns i zero = []
listed ns i (suc count) = get_or ns i 0 ∷ listed ns (suc i) count

listed_all : (ns : List ℕ) (i count : ℕ) → i + count ≡ length ns → listed ns i count ≡ drop i ns
unfolding listed
listed_all ns i zero e =
    let s : i ≡ length ns = omega arith in
    rw s (sym (drop-length ns))
listed_all ns i (suc count) e =
    let l : i < length ns = omega arith in
    rw (drop-cons ns i 0 l, listed_all ns (suc i) count (omega arith))

pub nine_numbers : (ns : List ℕ) → length ns ≡ 9 → sensor_numbers (sensor_of ns) ≡ ns
unfolding listed
nine_numbers ns h = listed_all ns 0 9 (sym h)
