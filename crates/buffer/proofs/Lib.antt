pub mod Digits
pub mod Appending
