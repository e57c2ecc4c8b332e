-- `sensor::Sensor::check` meets its contract: a sensor that passes keeps its rules. Assumes nothing.
use Rattle.std.proofs.Common.{sym}
use Rattle.sensor.specs.Sensor.{sensor_numbers}
use Rattle.sensor.proofs.Sensors.{sensor_rules}
use Rattle.sensor.proofs.Sensor.check.Goals as goal

pub returns-in-None-clause-rules : goal.returns-in-None-clause-rules
returns-in-None-clause-rules c = sensor_rules (sensor_numbers c.args.self) (sym (rw c.numbers.ensures at c.in-None.ensures))
