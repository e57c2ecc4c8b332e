-- A text loads to a map exactly where it is, blanks at the ends of its lines aside, the listing of this map, and enough entries are lent. Assumes nothing.
use Rattle.std.proofs.Common.{ℕ, ◌*◌, ◌≡◌, ◌∙◌, sym, ap, arith, List, length}
use Rattle.std.proofs.Math.Seq.{take-length}
use Rattle.refusal.specs.Outcome.{accepted}
use Rattle.grid.specs.LossMap.{LossMap, map_left}
use Rattle.grid.specs.Parts.{grid_of}
use Rattle.grid.specs.declared.Grid.{Grid}
use Rattle.load.specs.Load.{load}
use Rattle.load.specs.Laws.{Holds, IsListing, LoadsExactly}
use Rattle.load.proofs.Loaded.{what_is_loaded, said_speeds, said_torques, said_entries, loaded_listing}
use Rattle.load.proofs.Loading.{same_map}
use Rattle.load.proofs.Printing.{listing_loads}

module _ (text : List ℕ) (lent : ℕ) where
  -- the axes of a map, with no places past their counts
  abbrev grid_said : LossMap → Grid
  grid_said m = grid_of m.speeds (length m.speeds) m.torques (length m.torques)

  listing_of_loaded : (m : LossMap) → load text lent ≡ accepted m → IsListing text lent m
  listing_of_loaded m e =
      let loaded = what_is_loaded text lent m e in
      let all = loaded.all in
      let speeds = ap (λ (m : LossMap). length m.speeds) (sym loaded.said) ∙ said_speeds all in
      let torques = ap (λ (m : LossMap). length m.torques) (sym loaded.said) ∙ said_torques all in
      let points : length m.speeds * length m.torques ≡ length m.entries =
      rw (speeds, torques) (sym loaded.full.whole) ∙ sym (ap (λ (m : LossMap). length m.entries) (sym loaded.said) ∙ said_entries all) in
      let holds : Holds m (grid_said m) m.entries = record {
        left = same_map (map_left m.entries (grid_said m)) m (take-length m.speeds) (take-length m.torques) (rw points (take-length m.entries));
        counts = record {
          speeds = omega (arith, speeds, loaded.full.runs_most);
          torques = omega (arith, torques, loaded.full.first_most);
          speeds_length = ap length (take-length m.speeds);
          torques_length = ap length (take-length m.torques);
        };
      } in
      record {
        grid = grid_said m;
        entries = m.entries;
        left = holds.left;
        listing_of = loaded_listing text lent m e (grid_said m) m.entries holds;
        enough = omega (arith, points, loaded.checked.enough);
      }

pub loads_exactly : LoadsExactly
loads_exactly text lent m = (
  listing_of_loaded text lent m,
  λ is. listing_loads is.grid is.entries text is.listing_of lent is.enough ∙ ap (λ n. accepted n) is.left,
)
