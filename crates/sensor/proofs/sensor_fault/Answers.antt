-- `sensor::sensor_fault` meets its contract: the position that it answers is that of the first pair whose number is outside its range. Assumes nothing.
use Rattle.std.proofs.Common.{rules, tests}
use Rattle.std.proofs.lemmas.Iterator.{YieldsList-from_slice, YieldsList-from_zip}
use Rattle.std.proofs.lemmas.Iterator.Search.{position_from_yields_List}
use Rattle.sensor.specs.Sensor.{sensor_ranges}
use Rattle.sensor.proofs.Sensors.{outside, first_outside}
use Rattle.sensor.proofs.sensor_fault.Goals as goal

pub returns : goal.returns
returns c =
    let found = position_from_yields_List outside c.position.new.self _ _ c.position.ensures.ran (YieldsList-from_zip (YieldsList-from_slice c.args.numbers.now cc) (YieldsList-from_slice sensor_ranges cc)) (λ x b q k. search (rules, tests)) in
    rw found (first_outside c.args.numbers.now c.told-numbers)
