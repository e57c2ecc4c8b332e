pub mod Bytes
pub mod Field
pub mod Sensor
pub mod Answers
