pub mod Sensors
