-- `encoding::write_field` meets its contract. Assumes nothing.
use Rattle.std.proofs.Common.{take}
use Rattle.std.specs.List.{flat_map}
use Rattle.buffer.specs.Written.{Appends}
use Rattle.encoding.proofs.write_field.Given as goal

abbrev pub invariant-loop-number : goal.invariant-loop-number
invariant-loop-number g l = Appends (flat_map g.T.FieldNumber.bytes_of (take l.number-index l.numbers)) l.initial.file l.file
