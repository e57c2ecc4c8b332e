-- `report::program_output` meets its contract. Assumes nothing.
use Rattle.std.proofs.Common.{rules, ◌≡◌, length}
use Rattle.std.proofs.Math.Nat.{min_comm}
use Rattle.std.proofs.lemmas.List.{take_min}
use Rattle.report.proofs.Laws.{program_writes}
use Rattle.report.proofs.program_output.Goals as goal

pub returns : goal.returns
returns c =
    let entries : length c.args.entries.now ≡ 2048 = search rules in
    let text : length c.args.text.now ≡ 65536 = search rules in
    let reported = rw (c.min-count.ensures, min_comm, take_min) at c.write.ensures in
    program_writes _ _ _ _ _ c.write.result _ entries text reported c.text_length.ensures
