-- The crate's own laws.
pub mod Axes
pub mod Weights
pub mod Sums
pub mod Limits
pub mod Demand
pub mod Losses
pub mod Demands
pub mod Conventions
