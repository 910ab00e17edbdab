pub mod Blocks
pub mod Build
