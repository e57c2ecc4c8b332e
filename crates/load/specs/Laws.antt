-- Document 02, C-16, as laws: "Every listing we print loads to its own map"; a text loads to a map exactly where it is, blanks at the ends of its lines aside, the listing of this map, and enough entries are lent; a loaded map listed again is its text without these blanks.
use Rattle.std.specs.Prelude.{ℕ, ◌*◌, ◌≤◌, ◌≡◌, ◌↔◌, true, List, All, length, take}
use Rattle.refusal.specs.Outcome.{accepted}
use Rattle.grid.specs.LossMap.{LossMap, CountsWithin, map_left}
use Rattle.grid.specs.Map.{valid_map}
use Rattle.grid.specs.declared.Grid.{Grid}
use Rattle.buffer.specs.Written.{content_of}
use Rattle.listing.specs.Listing.{listing, listed}
use Rattle.listing_lines.specs.Lines.{Line, lines}
use Rattle.load.specs.Load.{load}
use Rattle.load.specs.Unpadded.{unpadded}

-- each line ends with a line feed, the last too
abbrev pub IsEnded : Line → Type 0
IsEnded line = line.ended ≡ true

abbrev pub AllEnded : List ℕ → Type 0
AllEnded text = All IsEnded (lines text)

-- a text that is, blanks at the ends of its lines aside, the listing of this map
pub record ListingOf (grid : Grid) (entries text : List ℕ) : Type 0 where
  pub map : valid_map grid entries ≡ true
  pub ended : AllEnded text
  pub same : unpadded text ≡ listing grid entries

-- it loads to this map, with as many entries lent as the map has
abbrev pub LoadsTo : Grid → (entries text : List ℕ) → Type 0
LoadsTo grid entries text =
    (lent : ℕ) → grid.speeds.count * grid.torques.count ≤ lent → load text lent ≡ accepted (map_left entries grid)

-- what a caller holds of a map: its axes and the entries
pub record Holds (m : LossMap) (grid : Grid) (entries : List ℕ) : Type 0 where
  pub left : map_left entries grid ≡ m
  pub counts : CountsWithin grid

-- what a text is that loads to a map: its listing, and enough entries are lent for it
pub record IsListing (text : List ℕ) (lent : ℕ) (m : LossMap) : Type 0 where
  pub grid : Grid
  pub entries : List ℕ
  pub left : map_left entries grid ≡ m
  pub listing_of : ListingOf grid entries text
  pub enough : grid.speeds.count * grid.torques.count ≤ lent

-- a text that is, blanks aside, the listing of a map loads to this map
abbrev pub ListingLoads : Type 0
ListingLoads = (grid : Grid) (entries text : List ℕ) → ListingOf grid entries text → LoadsTo grid entries text

-- "Every listing we print loads to its own map"
abbrev pub PrintedLoads : Type 0
PrintedLoads = (grid : Grid) (entries : List ℕ) → valid_map grid entries ≡ true → LoadsTo grid entries (listing grid entries)

-- the same of the bytes that the listing function leaves in a buffer, and of the length that it answers
abbrev pub WrittenLoads : Type 0
WrittenLoads = (grid : Grid) (entries before after : List ℕ) (n : ℕ) → listed grid entries (length before) ≡ accepted n
    → after ≡ content_of (accepted n) (listing grid entries) before → LoadsTo grid entries (take n after)

-- what is loaded is a map, and listed again it is the text without the blanks at the ends of its lines
abbrev pub LoadedListing : Type 0
LoadedListing = (text : List ℕ) (lent : ℕ) (m : LossMap) → load text lent ≡ accepted m → (grid : Grid) (entries : List ℕ) → Holds m grid entries
    → ListingOf grid entries text

-- a text loads to a map exactly where it is, blanks aside, the listing of this map, and enough entries are lent
abbrev pub LoadsExactly : Type 0
LoadsExactly = (text : List ℕ) (lent : ℕ) (m : LossMap) → (load text lent ≡ accepted m) ↔ IsListing text lent m
