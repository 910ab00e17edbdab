pub mod Reads
pub mod Digits
pub mod Counts
