-- `encoding::write_measured` meets its contract. Assumes nothing.
use Rattle.std.proofs.Common.{ne_eqb, arith}
use Rattle.layout.specs.Layout.{four_bytes, measured_bytes}
use Rattle.component.proofs.KindNumbers.{not_standard}
use Rattle.numbers.proofs.Kept.{sizes, kind_said}
use Rattle.buffer.proofs.Appending.{appends_then, appends_nothing}
use Rattle.encoding.proofs.Encoded.{flat_map_encoded}
use Rattle.encoding.proofs.write_measured.Goals as goal

pub write_sensors-requires-clause-measured : goal.write_sensors-requires-clause-measured
write_sensors-requires-clause-measured c = not_standard _ c.in_default.not-Standard

pub returns-in-Standard : goal.returns-in-Standard
unfolding measured_bytes
returns-in-Standard c =
    rw (← c.requires.kind, c.in-Standard.is) (appends_nothing _ (omega arith))

pub returns : goal.returns
unfolding measured_bytes
returns c =
    let g = c.args.numbers.now in
    let rows = c.args.rows.now in
    let measured = not_standard _ c.in_default.not-Standard in
    let not_one = ne_eqb g.kind 1 (omega (arith, c.requires.kind, measured)) in
    let counted = rw not_one at (kind_said g rows (sizes g rows c.requires.passed).kind) in
    let all = appends_then c.write_sensors.ensures.sensors c.write_field.ensures in
    rw (not_one, counted) (rw (flat_map_encoded four_bytes, c.rows_tag.ensures, c.number.ensures, c.requires.kind) at all)
