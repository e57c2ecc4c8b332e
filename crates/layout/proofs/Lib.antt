pub mod FieldBytes
pub mod LaidBytes
pub mod OneField
pub mod BodyChecks
pub mod Runs
pub mod LaidOut
pub mod Theorems
pub mod Lengths
