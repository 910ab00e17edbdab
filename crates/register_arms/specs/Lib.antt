pub mod Values
pub mod Nulls
