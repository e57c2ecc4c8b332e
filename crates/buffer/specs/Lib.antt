pub mod Bytes
pub mod Digits
pub mod Written
