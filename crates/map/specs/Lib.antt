pub mod Build
pub mod Answers
pub mod Acceptance
