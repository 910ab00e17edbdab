pub mod Copies
pub mod Gaps
pub mod InPlace
