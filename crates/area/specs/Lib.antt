pub mod Words
pub mod Cells
pub mod Moves
pub mod Counts
