-- Reading cases of document 01, "Reckoned by hand" and "Refusals", and of document 02, C-11 and C-14, shown of the definition. Assumes nothing.
use Prim.Native.Nat.{ℕ, ◌/◌, ◌%◌}
use mathlib.Core.Path.{◌≡◌, refl}
use mathlib.Core.List.{List, [], ◌∷◌, ◌++◌}
use Rattle.refusal.specs.Outcome.{refusal_with_index, Outcome, accepted, refused, refuse, first_refusal}
use Rattle.grid.specs.Axis.{within, rises, axis_number, axis_numbers, first_step}
use Rattle.fields.specs.Bytes.{pairs}
use Rattle.fields.specs.Field.{head, field, number, axis}
use Rattle.fields.specs.Sensor.{sensor}
use Rattle.sensor.specs.Sensor.{sensor_check, sensor_number_check}
use Rattle.component.specs.Component.{Component, standard, component, axle_fields, axes_fields, kind_fields, output_tags, sensor_fields, measured_fields}

-- this kind, SR, so many thousandths as two bytes, speeds 100 and 200, and the head of tag 5 with two torques
up_to_torques : (kind high low : ℕ) → List ℕ
up_to_torques kind high low =
    1 ∷ 0 ∷ 1 ∷ kind ∷ 2 ∷ 0 ∷ 1 ∷ 1 ∷ 3 ∷ 0 ∷ 2 ∷ high ∷ low ∷ 4 ∷ 0 ∷ 4 ∷ 0 ∷ 100 ∷ 0 ∷ 200 ∷ 5 ∷ 0 ∷ 4 ∷ []

-- the same with ratio 3.000, and torques 0 and 1,000: data up to its sensors
up_to_sensors : (kind : ℕ) → List ℕ
up_to_sensors kind = up_to_torques kind 0x0B 0xB8 ++ (0 ∷ 0 ∷ 3 ∷ 0xE8 ∷ [])

-- the field of a sensor with these numbers N, k and R; its other numbers are 0
sensor_field : (tag nominal advancement span : ℕ) → List ℕ
sensor_field tag nominal advancement span =
    tag ∷ 0 ∷ 18 ∷ 0 ∷ nominal ∷ 0 ∷ 0 ∷ 0 ∷ 0 ∷ 0 ∷ 0 ∷ advancement / 256 ∷ advancement % 256 ∷ 0 ∷ 0 ∷ 0 ∷ 0 ∷ 0 ∷ 0 ∷ 0 ∷ span ∷ []

-- what the data of a standard axle with these torques says
standard_with : ℕ → List ℕ → Outcome Component
standard_with ratio torques = accepted (record { kind = standard; line = 1; ratio = ratio; speeds = 100 ∷ 200 ∷ []; torques = torques })

record Example : Type 0 where
  bytes : List ℕ
  says : Outcome Component

Hold : List Example → Type 0
Hold [] = Unit
Hold (e ∷ es) = (component e.bytes ≡ e.says) × Hold es

examples : List Example
examples =
    record { bytes = up_to_torques 1 0x0B 0xB8 ++ (0 ∷ 10 ∷ 0 ∷ 20 ∷ []); says = standard_with 3000 (10 ∷ 20 ∷ []) }
    ∷ record { bytes = up_to_torques 1 0x0B 0xB8 ++ (0 ∷ 11 ∷ 0 ∷ 21 ∷ []); says = refuse 6 23 }
    ∷ record { bytes = up_to_torques 1 0x0B 0xB8 ++ (0 ∷ 11 ∷ 0 ∷ 11 ∷ []); says = refuse 5 25 }
    ∷ record { bytes = up_to_torques 1 0x0B 0xB8 ++ (0 ∷ 0 ∷ 3 ∷ 0xE8 ∷ 7 ∷ []); says = refuse 12 27 }
    ∷ record { bytes = up_to_torques 1 3 0xE7 ++ (0 ∷ 0 ∷ 3 ∷ 0xE8 ∷ []); says = refused (refusal_with_index 31 11 0) }
    ∷ record { bytes = up_to_torques 1 3 0xE8 ++ (0 ∷ 0 ∷ 3 ∷ 0xE8 ∷ []); says = standard_with 1000 (0 ∷ 1000 ∷ []) }
    ∷ record { bytes = up_to_torques 1 0x4E 0x20 ++ (0 ∷ 0 ∷ 3 ∷ 0xE8 ∷ []); says = standard_with 20000 (0 ∷ 1000 ∷ []) }
    ∷ record { bytes = up_to_torques 1 0x4E 0x21 ++ (0 ∷ 0 ∷ 3 ∷ 0xE8 ∷ []); says = refused (refusal_with_index 31 11 0) }
    ∷ record { bytes = up_to_sensors 2 ++ sensor_field 6 100 1000 101; says = refused (refusal_with_index 32 46 8) }
    ∷ record { bytes = up_to_sensors 2 ++ sensor_field 6 100 1000 100 ++ sensor_field 7 100 999 100; says = refused (refusal_with_index 32 59 4) }
    ∷ record {
      bytes = up_to_sensors 3 ++ sensor_field 6 100 1000 100 ++ sensor_field 7 100 1000 10 ++ sensor_field 9 0 1000 10;
      says = refused (refusal_with_index 32 72 0);
    }
    ∷ record { bytes = 1 ∷ 0 ∷ 1 ∷ 3 ∷ []; says = refuse 2 4 }
    ∷ record { bytes = 1 ∷ 0 ∷ 1 ∷ 4 ∷ []; says = refuse 4 3 }
    ∷ record { bytes = 1 ∷ []; says = refuse 1 0 }
    ∷ record { bytes = []; says = refuse 2 0 }
    ∷ []

hold : Hold examples
unfolding Hold examples up_to_torques up_to_sensors sensor_field standard_with component axle_fields axes_fields kind_fields measured_fields output_tags sensor_fields head field number axis sensor sensor_check sensor_number_check pairs within rises axis_number axis_numbers first_step first_refusal
hold = (refl, (refl, (refl, (refl, (refl, (refl, (refl, (refl, (refl, (refl, (refl, (refl, (refl, (refl, (refl, tt)))))))))))))))
