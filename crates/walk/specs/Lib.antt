pub mod Walks
pub mod Loop
