pub mod Loss
pub mod Nearest
pub mod Acceptance
pub mod Losses
