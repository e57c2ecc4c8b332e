pub mod Component
pub mod Answers
