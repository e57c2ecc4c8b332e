pub mod Writing
pub mod Laws
