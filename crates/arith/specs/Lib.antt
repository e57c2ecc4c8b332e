-- What the contracts and laws of this crate cite.
pub mod Quotient
pub mod Root
pub mod Fraction
