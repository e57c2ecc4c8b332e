-- Document 01, "The map program" and "Refusals": the listing of a map and the line of a refusal, as bytes.
use Rattle.std.specs.Prelude.{ℕ, ◌+◌, ◌*◌, List, ◌++◌, get_or}
use Rattle.refusal.specs.Outcome.{Told, Outcome, require, ◌>>=◌}
use Rattle.grid.specs.declared.Grid.{Grid}
use Rattle.grid.specs.Lists.{joined}
use Rattle.grid.specs.Map.{valid_map}
use Rattle.buffer.specs.Bytes.{bytes}
use Rattle.buffer.specs.Written.{fitted}
use Rattle.buffer.specs.Digits.{decimal, hundredths}

-- ---- the listing
-- the header's bytes, without its line feed
unfoldable pub header : List ℕ
header = bytes "speed,torque,loss"

-- the line of an entry: speed in rpm, torque in Nm, the entry in Nm with its hundredths, and a line feed
unfoldable pub line : (speed torque loss : ℕ) → List ℕ
line speed torque loss = decimal speed ++ bytes "," ++ decimal torque ++ bytes "," ++ hundredths loss ++ bytes "\n"

-- the line of torque j; the entries of its speed start at index first
abbrev pub line_at : (speed : ℕ) (torques entries : List ℕ) (first j : ℕ) → List ℕ
line_at speed torques entries first j = line speed (get_or torques j 0) (get_or entries (first + j) 0)

-- the lines of one speed
unfoldable pub row : (speed : ℕ) (torques : List ℕ) (torque_count : ℕ) (entries : List ℕ) (first : ℕ) → List ℕ
row speed torques torque_count entries first = joined (line_at speed torques entries first) torque_count

-- the lines of speed i
abbrev pub row_of_speed : (speeds torques : List ℕ) (torque_count : ℕ) (entries : List ℕ) (i : ℕ) → List ℕ
row_of_speed speeds torques torque_count entries i = row (get_or speeds i 0) torques torque_count entries (i * torque_count)

-- the lines of all entries, speed after speed
unfoldable pub rows : (speeds : List ℕ) (speed_count : ℕ) (torques : List ℕ) (torque_count : ℕ) (entries : List ℕ) → List ℕ
rows speeds speed_count torques torque_count entries = joined (row_of_speed speeds torques torque_count entries) speed_count

-- the header, and the lines after it
unfoldable pub listing : Grid → List ℕ → List ℕ
listing grid entries =
    header ++ bytes "\n" ++ rows grid.speeds.numbers grid.speeds.count grid.torques.numbers grid.torques.count entries

-- ---- the refusal's line
-- number and place; data of no bytes has `refused 2 at 0`
unfoldable pub refusal_line : Told → List ℕ
refusal_line t = bytes "refused " ++ decimal t.number ++ bytes " at " ++ decimal t.place ++ bytes "\n"

-- ---- what is answered: 22 is tested before 11, whose place is the listing's length
abbrev pub listed : Grid → List ℕ → (room : ℕ) → Outcome ℕ
listed grid entries room = do
  _ ← require (valid_map grid entries) 22 0
  fitted 11 (listing grid entries) room
