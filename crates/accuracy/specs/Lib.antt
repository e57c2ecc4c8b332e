-- What the laws of this crate cite.
pub mod Claim
pub mod Demand
pub mod Losses
pub mod Conventions
