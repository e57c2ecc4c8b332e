pub mod Lengths
pub mod Parts
pub mod Sets
pub mod Examples
