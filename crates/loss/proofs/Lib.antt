-- The crate's own laws.
pub mod OneDenominator
pub mod Values
pub mod Lines
pub mod Parts
pub mod SensorSteps
pub mod Roots
pub mod Readings
pub mod Rows
pub mod Cuts
pub mod Accuracy
pub mod ExactCases
