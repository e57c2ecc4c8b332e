-- Document 01, "Reckoned by hand", with document 02, C-13: every line marked for the proved set, as what is computed beside what the papers have.
use Rattle.std.specs.Prelude.{ℕ, ◌≡◌, List, [], ◌∷◌, ℤ, pos}
use Rattle.refusal.specs.Outcome.{Outcome, accepted, refuse}
use Rattle.grid.specs.Parts.{grid_of}
use Rattle.grid.specs.declared.Grid.{Grid}
use Rattle.grid.specs.LossMap.{LossMap}
use Rattle.sensor.specs.declared.Sensor.{Sensor}
use Rattle.loss.specs.Standard.{standard_entry}
use Rattle.loss.specs.Measured.{sensor_uncertainty, sensor_steps, Row, row_uncertainty, measured_entry}
use Rattle.rows.specs.Rows.{row_check}
use Rattle.map.specs.Build.{build}
use Rattle.buffer.specs.Bytes.{bytes}
use Rattle.report.specs.Report.{report}
use Rattle.cell.specs.declared.Point.{Point}
use Rattle.lookup.specs.Loss.{loss_answer}
use Rattle.lookup.specs.declared.GridPoint.{GridPoint}
use Rattle.lookup.specs.Nearest.{nearest_answer}
use Rattle.worked.specs.Data.{standard_data}

-- what is computed, and what the papers have
pub data Case : Type 0 where
  number_case : (computed expected : ℕ) → Case
  text_case : (computed expected : List ℕ) → Case
  map_case : (computed expected : Outcome LossMap) → Case
  row_case : (computed expected : Outcome (Unit {0})) → Case
  loss_case : (computed expected : Outcome ℤ) → Case
  nearest_case : (computed expected : Outcome GridPoint) → Case

abbrev pub Holds : Case → Type 0
Holds (number_case computed expected) = computed ≡ expected
Holds (text_case computed expected) = computed ≡ expected
Holds (map_case computed expected) = computed ≡ expected
Holds (row_case computed expected) = computed ≡ expected
Holds (loss_case computed expected) = computed ≡ expected
Holds (nearest_case computed expected) = computed ≡ expected

abbrev pub Hold : List Case → Type 0
Hold [] = Unit
Hold (e ∷ es) = Holds e × Hold es

abbrev pub grid_with : ℕ → ℕ → Grid
grid_with first second = grid_of (100 ∷ 200 ∷ []) 2 (first ∷ second ∷ []) 2

abbrev pub point : ℕ → ℕ → Point
point speed torque = record { speed = speed; torque = torque }

-- a sensor whose only influence is calibration
abbrev pub sensor : ℕ → Sensor
sensor N = record { nominal = N; sensitivity = 0; zero = 0; calibration = 100; advancement = 1000; parasitic = 0; share = 0; difference = 0; span = 10 }

-- ratio 3.000; nominal torques 10,000 Nm for the input and 40,000 Nm for the output; "Output 3,000.00", at the axis torque 3,000
abbrev pub measured_row : ℕ → Row
measured_row input = record {
  ratio = 3000;
  sensor = sensor 10000;
  input = input;
  outputs = record { sensor = sensor 40000; torque = 300000 } ∷ [];
}

abbrev pub cases : List Case
cases =
    -- the listing's map, from its bytes to its entries, its text and its answer
    map_case (build standard_data 4) (accepted (record { speeds = 100 ∷ 200 ∷ []; torques = 0 ∷ 1000 ∷ []; entries = 13000 ∷ 15041 ∷ 13000 ∷ 15041 ∷ [] }))
    ∷ text_case (report standard_data 4) (bytes "speed,torque,loss\n100,0,130.00\n100,1000,150.41\n200,0,130.00\n200,1000,150.41\n")
    ∷ loss_case (loss_answer (grid_with 0 1000) (13000 ∷ 15041 ∷ 13000 ∷ 15041 ∷ []) (point 1000 50000)) (accepted (pos 14021))
    -- SR, ratio 3.000, 9,800 Nm; HRT, 7.000, 950 Nm
    ∷ number_case (standard_entry 1 3000 9800) 33000
    ∷ number_case (standard_entry 5 7000 950) 28000
    -- SR, 3.000, torques 1,000 and 2,000; at 0 Nm and at 500.00 Nm
    ∷ number_case (standard_entry 1 3000 1000) 15041
    ∷ number_case (standard_entry 1 3000 2000) 17082
    ∷ loss_case (loss_answer (grid_with 1000 2000) (15041 ∷ 17082 ∷ 15041 ∷ 17082 ∷ []) (point 1000 0)) (accepted (pos 13000))
    ∷ loss_case (loss_answer (grid_with 1000 2000) (15041 ∷ 17082 ∷ 15041 ∷ 17082 ∷ []) (point 1000 50000)) (accepted (pos 14021))
    -- parts 1, 0, 0, 0 and 0, 0, 1, 0
    ∷ number_case (sensor_uncertainty 1 0 0 0) 2
    ∷ number_case (sensor_uncertainty 0 0 1 0) 2
    -- U of both sensors and the loss uncertainty; then input 1,100.00, 1,020.00, 1,000.00 (7.00 Nm by C-13) and 999.99
    ∷ number_case (sensor_steps (sensor 10000) 110000).uncertainty 20000
    ∷ number_case (sensor_steps (sensor 40000) 300000).uncertainty 80000
    ∷ number_case (row_uncertainty (measured_row 110000)) 100000
    ∷ number_case (measured_entry (measured_row 110000)) 30000
    ∷ number_case (measured_entry (measured_row 102000)) 6700
    ∷ number_case (measured_entry (measured_row 100000)) 700
    ∷ row_case (row_check 3000 (measured_row 100000)) (accepted tt)
    ∷ row_case (row_check 3000 (measured_row 99999)) (refuse 9 0)
    -- speeds 100 and 200: 150.0 rpm and 150.1 rpm
    ∷ nearest_case (nearest_answer (grid_with 0 1000) (point 1500 0)) (accepted (record { speed = 100; torque = 0 }))
    ∷ nearest_case (nearest_answer (grid_with 0 1000) (point 1501 0)) (accepted (record { speed = 200; torque = 0 }))
    ∷ []
