pub mod Copying
pub mod StandardRows
pub mod Maps
pub mod ReadData
pub mod Valid
pub mod Acceptance
pub mod RowInRange
pub mod EarlierAllowance
