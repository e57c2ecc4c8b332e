-- `report::write` meets its contract. Assumes nothing.
use Rattle.layout.specs.Rules.{AreBytes}
use Rattle.map.proofs.Valid.{is_map}
use Rattle.report.proofs.Laws.{refusal_reported, map_reported}
use Rattle.report.proofs.write.Goals as goal

pub returns-in-Ok : goal.returns-in-Ok
returns-in-Ok c =
    let built = c.in-Ok.ensures in
    let are_bytes : AreBytes c.args.«data».now = λ i h. (c.type_inv.data i).fits in
    map_reported _ _ _ _ _ _ built.written _ built.outcome (is_map _ _ _ are_bytes _ built) built.counts c.write.ensures.answer c.write.ensures.text_after

pub returns-in-Err : goal.returns-in-Err
returns-in-Err c =
    let built = c.in-Err.ensures in
    let line = c.write_refusal.ensures in
    refusal_reported _ _ _ _ _ _ built.written _ built.outcome line.answer line.text_after line.short
