-- `map::build_entries` meets its contract. Assumes nothing.
use Rattle.std.proofs.Common.{◌∙◌}
use Rattle.refusal.proofs.Steps.{never}
use Rattle.sensor.proofs.Sensors.{sensors_accepted}
use Rattle.map.proofs.ReadData.{short, standard_built, measured_built}
use Rattle.map.proofs.build_entries.Goals as goal

pub returns-then-entries-points : goal.returns-then-entries-points
returns-then-entries-points c = short c.args.component.now c.requires.counts _ c.counted_numbers-torques.ensures.numbers _ c.if-entries-points.true

pub returns-in-None : goal.returns-in-None
returns-in-None c = standard_built c.args.component.now c.requires.counts _ c.counted_numbers-torques.ensures.numbers _ _ c.if-entries-points.false c.in-None.is c.build_standard.ensures

-- the sensors keep their rules, so none is refused
pub returns-in_err-bench-in-Some : goal.returns-in_err-bench-in-Some
returns-in_err-bench-in-Some c =
    let kept = rw c.in-Some.is at c.requires.rules.kind in
    never _ tt (c.in_err-bench-in-Some.ensures.answer ∙ sensors_accepted _ kept.sensors)

pub returns-in_ok-bench-in-Some : goal.returns-in_ok-bench-in-Some
returns-in_ok-bench-in-Some c =
    measured_built c.args.component.now c.requires.counts _ c.counted_numbers-torques.ensures.numbers _ _ c.if-entries-points.false _ c.in-Some.is c.in_ok-bench-in-Some.bench c.in_ok-bench-in-Some.ensures.bench c.build_measured.result c.build_measured.ensures.answer c.build_measured.ensures.entries_written
