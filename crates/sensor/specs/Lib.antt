pub mod Sensor
pub mod Fault
