pub mod Examples
pub mod KindNumbers
