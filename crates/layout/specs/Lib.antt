pub mod Layout
pub mod Rules
pub mod Faults
pub mod Acceptance
pub mod Length
