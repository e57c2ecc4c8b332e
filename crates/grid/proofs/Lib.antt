pub mod Every
pub mod Numbers
pub mod AxisLaws
pub mod Map
pub mod Points
pub mod Lists
pub mod Filling
