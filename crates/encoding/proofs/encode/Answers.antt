-- `encoding::encode` meets its contract. Assumes nothing.
use Rattle.std.proofs.lemmas.Bool.{some_since}
use Rattle.grid.specs.Map.{counted_numbers}
use Rattle.grid.proofs.AxisLaws.{not_in_range}
use Rattle.layout.specs.Layout.{two_bytes, layout}
use Rattle.numbers.proofs.Kept.{sizes, kind_said}
use Rattle.buffer.proofs.Appending.{appends_then}
use Rattle.encoding.proofs.Encoded.{flat_map_encoded}
use Rattle.encoding.proofs.encode.Goals as goal

pub unwrap-kind-requires : goal.unwrap-kind-requires
unwrap-kind-requires c =
    let passed = sizes c.args.numbers.now c.args.rows.now c.requires.passed in
    some_since _ _ _ c.from_number.ensures (λ outside. not_in_range _ _ outside passed.kind)

pub returns : goal.returns
unfolding layout
returns c =
    let g = c.args.numbers.now in
    let rows = c.args.rows.now in
    let kind = kind_said g rows (sizes g rows c.requires.passed).kind in
    let speeds = rw c.counted_numbers.ensures.numbers at c.write_field-4.ensures in
    let torques = rw c.counted_numbers-2.ensures.numbers at c.write_field-5.ensures in
    rw (kind, ← flat_map_encoded two_bytes (counted_numbers g.grid.speeds), ← flat_map_encoded two_bytes (counted_numbers g.grid.torques))
    (appends_then c.write_field.ensures (appends_then c.write_field-2.ensures (appends_then c.write_field-3.ensures (appends_then speeds (appends_then torques c.write_measured.ensures)))))
