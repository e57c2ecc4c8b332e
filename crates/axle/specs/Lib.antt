-- What the contracts of this crate cite.
pub mod Interface
pub mod Build
pub mod Losses
pub mod Steps
pub mod Drag
