-- The crate's own laws.
pub mod Building
pub mod ListedMaps
pub mod Index
pub mod Losses
pub mod SensorSteps
pub mod RetarderDrag
