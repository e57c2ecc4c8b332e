pub mod Cases
pub mod Data
