-- The listing of a map that was built loads to this map. Assumes nothing.
use Rattle.std.proofs.Common.{List, ℕ, Ok}
use Rattle.grid.specs.declared.Grid.{Grid}
use Rattle.layout.specs.Rules.{AreBytes}
use Rattle.map.specs.Answers.{Builds}
use Rattle.map.proofs.Valid.{is_map}
use Rattle.listing.specs.Listing.{listing}
use Rattle.load.specs.Laws.{LoadsTo}
use Rattle.load.proofs.Printing.{printed_loads}

pub built_listing_loads : (bytes before after : List ℕ) → AreBytes bytes → (grid : Grid) → Builds bytes before after (Ok grid) → LoadsTo grid after (listing grid after)
built_listing_loads bytes before after are_bytes grid b = printed_loads grid after (is_map bytes before after are_bytes grid b)
