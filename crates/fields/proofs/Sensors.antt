-- The body of a sensor's field, once its numbers are written to nine places. Assumes nothing.
use Prim.Native.Nat.{ℕ, ◌+◌, ◌*◌, ◌/◌, ◌≤◌}
use mathlib.Core.Path.{◌≡◌, ◌∙◌}
use mathlib.Core.List.{List, ◌++◌, append-nil}
use native.Mathlib.Omega.{arith}
use lib.ListN.{length, drop, drop_of_length-le}
use Rattle.refusal.specs.Outcome.{refusal_with_index, accepted, refused}
use Rattle.fields.specs.Bytes.{pairs}
use Rattle.fields.specs.Sensor.{sensor}
use Rattle.sensor.specs.Sensor.{sensor_check, sensor_of}

-- the nine numbers of a body of 18 bytes, once they are written to nine places
module _ (body before numbers : List ℕ) (place : ℕ) (long : length body ≡ 18) (room : length before ≡ 9)
    (filled : numbers ≡ pairs body ++ drop (length body / 2) before) where
  nine : numbers ≡ pairs body
  nine =
      let l : length before ≤ length body / 2 = omega arith in
      filled ∙ rw (drop_of_length-le before l) (append-nil (pairs body))

  pub body_refused : (i : ℕ) → refused (refusal_with_index 32 i i) ≡ sensor_check numbers
      → refused (refusal_with_index 32 (place + 2 * i) i) ≡ sensor body place
  unfolding sensor
  body_refused i e = rw (← (rw nine at e))

  pub body_read : accepted tt ≡ sensor_check numbers → accepted (sensor_of numbers) ≡ sensor body place
  unfolding sensor
  body_read e = rw (← (rw nine at e), nine)
