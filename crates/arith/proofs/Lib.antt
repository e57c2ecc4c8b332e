-- The crate's own laws.
pub mod Squares
pub mod Quotients
pub mod Roots
pub mod Fractions
pub mod Rounding
pub mod Examples
