-- The crate's own laws.
pub mod Search
pub mod Axes
pub mod Weights
pub mod Lines
pub mod Queries
pub mod Cells
pub mod Nearness
pub mod Decided
pub mod ManyPoints
pub mod Examples
