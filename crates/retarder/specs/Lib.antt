pub mod SpeedPoints
pub mod Drag
pub mod Laws
