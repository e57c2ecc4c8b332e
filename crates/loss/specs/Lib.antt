-- What the contracts and laws of this crate cite.
pub mod PartAbove
pub mod Standard
pub mod Measured
pub mod Rate
pub mod SensorSteps
pub mod Exact
pub mod ExactCases
