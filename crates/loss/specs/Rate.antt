-- How the program reckons part a of a sensor at each of its torques: by a rate that is reckoned once.
use Rattle.std.specs.Prelude.{ℕ, ◌*◌, ◌/◌, ◌^◌}
use Rattle.sensor.specs.declared.Sensor.{Sensor}

-- part a at a torque of 0.01 Nm, in parts of 2^46 of a grain, rounded down
unfoldable pub sensitivity_rate : Sensor → ℕ
sensitivity_rate sensor = sensor.sensitivity * sensor.difference * 2 ^ 46 / (100000 * sensor.span)
