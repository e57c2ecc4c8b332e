-- The crate's own laws.
pub mod Segments
pub mod Accurate
pub mod Decided
pub mod Examples
