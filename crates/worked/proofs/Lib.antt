pub mod Reckoned
pub mod Data
pub mod Choices
