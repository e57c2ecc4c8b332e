pub mod Cell
pub mod Rounding
pub mod Interpolation
