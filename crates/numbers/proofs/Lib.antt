pub mod Checks
pub mod Kept
