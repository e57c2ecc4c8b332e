-- Document 02, C-12: what holds between numbers that are handed over and the bytes that are written.
use Rattle.std.specs.Prelude.{ℕ, ◌*◌, ◌≤◌, ◌<◌, ◌≡◌, List, length, get_or, take}
use Rattle.refusal.specs.Outcome.{accepted, refuse}
use Rattle.grid.specs.Lists.{overwritten}
use Rattle.grid.specs.Map.{counted_numbers}
use Rattle.grid.specs.LossMap.{LossMap}
use Rattle.component.specs.Component.{Component, component}
use Rattle.layout.specs.Layout.{torque_bytes, torques_in}
use Rattle.layout.specs.Rules.{AreBytes, FitFourBytes}
use Rattle.rows.specs.Rows.{torque_at}
use Rattle.map.specs.Build.{build}
use Rattle.map.specs.Acceptance.{map_of_numbers}
use Rattle.numbers.specs.Says.{says, CountsSaid, numbers_of, row_torques_of}
use Rattle.numbers.specs.declared.Numbers.{Numbers}
use Rattle.writer.specs.Written.{written, file_after}

-- data that the reader and the build accept, and that says these numbers: kind, line, ratio, axes, and the sensors and rows that the kind has
pub record DataFor (g : Numbers) (row_torques bytes : List ℕ) : Type 0 where
  pub are_bytes : AreBytes bytes
  pub read : component bytes ≡ accepted (says g row_torques)
  pub counts : CountsSaid g row_torques
  -- with so many entries lent
  pub lent : ℕ
  pub map : LossMap
  pub built : build bytes lent ≡ accepted map

-- "What is written must be read back as the same numbers", and it builds, in 2,048 entries, to the map of these numbers
abbrev pub ReadBack : Type 0
ReadBack = (g : Numbers) (row_torques before : List ℕ) (n : ℕ) → FitFourBytes row_torques → written g row_torques (length before) ≡ accepted n
    → DataFor g row_torques (take n (file_after g row_torques before)) × (build (take n (file_after g row_torques before)) 2048 ≡ accepted (map_of_numbers (says g row_torques)))

-- the torques of the rows are read back too: all of them, and each where the build takes it from the rows' bytes
abbrev pub TorquesReadBack : Type 0
TorquesReadBack = (row_torques : List ℕ)
    → (torques_in (torque_bytes row_torques) ≡ row_torques) × ((k : ℕ) → k < length row_torques → torque_at (torque_bytes row_torques) (4 * k) ≡ get_or row_torques k 0)

-- "The writer accepts exactly the numbers the reader accepts": where it accepts, there is data for the numbers
abbrev pub AcceptedOnlyWithData : Type 0
AcceptedOnlyWithData = (g : Numbers) (row_torques : List ℕ) (room n : ℕ) → FitFourBytes row_torques → written g row_torques room ≡ accepted n
    → (bytes : List ℕ) × DataFor g row_torques bytes × (length bytes ≡ n)

-- and where there is data for them, it accepts them and writes that data, if there is room for it; if there is not, it tells 30
abbrev pub AcceptedWithData : Type 0
AcceptedWithData = (g : Numbers) (row_torques bytes before : List ℕ) → DataFor g row_torques bytes → length bytes ≤ length before
    → (written g row_torques (length before) ≡ accepted (length bytes)) × (file_after g row_torques before ≡ overwritten bytes before)

abbrev pub NoRoom : Type 0
NoRoom = (g : Numbers) (row_torques bytes : List ℕ) (room : ℕ) → DataFor g row_torques bytes → room < length bytes
    → written g row_torques room ≡ refuse 30 (length bytes)

-- two calls that differ at most in what is not looked at: "For kind 1, sensors and rows aren't looked at; for kind 2, the right sensor isn't"; nor are the places past an axis's count
pub record Alike (g h : Numbers) (row_torques others : List ℕ) : Type 0 where
  pub kind : g.kind ≡ h.kind
  pub line : g.line ≡ h.line
  pub ratio : g.ratio ≡ h.ratio
  pub speeds : counted_numbers g.grid.speeds ≡ counted_numbers h.grid.speeds
  pub speed_count : g.grid.speeds.count ≡ h.grid.speeds.count
  pub torques : counted_numbers g.grid.torques ≡ counted_numbers h.grid.torques
  pub torque_count : g.grid.torques.count ≡ h.grid.torques.count
  pub measured : (g.kind ≡ 1 → ⊥) → (g.input ≡ h.input) × (g.output ≡ h.output) × (row_torques ≡ others)
  pub three_sensors : g.kind ≡ 3 → g.right ≡ h.right

-- they have the same answer and leave the same bytes
abbrev pub NotLookedAt : Type 0
NotLookedAt = (g h : Numbers) (row_torques others before : List ℕ) → Alike g h row_torques others
    → (written g row_torques (length before) ≡ written h others (length before)) × (file_after g row_torques before ≡ file_after h others before)

-- "data that the reader accepts, written again, gives the same bytes": of data that the build accepts too, since the reader does not look at the rows; whatever stands where the data says nothing
abbrev pub WrittenAgain : Type 0
WrittenAgain = (bytes : List ℕ) (c : Component) (lent : ℕ) (m : LossMap) → AreBytes bytes → component bytes ≡ accepted c → build bytes lent ≡ accepted m
    → (g : Numbers) (row_torques before : List ℕ) → Alike g (numbers_of c) row_torques (row_torques_of c) → length bytes ≤ length before
    → (written g row_torques (length before) ≡ accepted (length bytes)) × (file_after g row_torques before ≡ overwritten bytes before)
