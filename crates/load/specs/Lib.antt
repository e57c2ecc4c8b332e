pub mod Rows
pub mod Load
pub mod Unpadded
pub mod Laws
pub mod Regular
pub mod Runs
pub mod Axes
pub mod Answers
