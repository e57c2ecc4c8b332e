pub mod Lines
pub mod Values
pub mod Decimals
pub mod Ends
pub mod Forms
pub mod Trimming
