pub mod Check
pub mod Says
