pub mod FourBytes
pub mod RowSteps
pub mod BenchRows
pub mod Acceptance
pub mod EarlierAllowance
pub mod RowSensors
pub mod RowParts
