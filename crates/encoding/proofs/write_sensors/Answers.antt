-- `encoding::write_sensors` meets its contract. Assumes nothing.
use Rattle.std.proofs.Common.{append-nil}
use Rattle.layout.specs.Layout.{two_bytes, sensor_bytes}
use Rattle.component.specs.Component.{output_tags}
use Rattle.component.proofs.KindNumbers.{one_output}
use Rattle.buffer.proofs.Appending.{appends_then}
use Rattle.encoding.proofs.Encoded.{flat_map_encoded}
use Rattle.encoding.proofs.write_sensors.Goals as goal

pub returns-in-HalfShafts-clause-sensors : goal.returns-in-HalfShafts-clause-sensors
unfolding sensor_bytes output_tags
returns-in-HalfShafts-clause-sensors c =
    let outputs = appends_then c.write_field-2.ensures c.write_field-in-HalfShafts.ensures in
    let all = appends_then c.write_field.ensures outputs in
    let said = simp (flat_map_encoded two_bytes, c.numbers.ensures, c.numbers-2.ensures, c.numbers-in-HalfShafts.ensures) at all in
    rw (c.in-HalfShafts.is, append-nil) said

pub returns-in_default-clause-sensors : goal.returns-in_default-clause-sensors
unfolding sensor_bytes output_tags
returns-in_default-clause-sensors c =
    let all = appends_then c.write_field.ensures c.write_field-2.ensures in
    let said = simp (flat_map_encoded two_bytes, c.numbers.ensures, c.numbers-2.ensures) at all in
    rw (one_output _ c.requires.measured c.in_default.not-HalfShafts, append-nil) said
