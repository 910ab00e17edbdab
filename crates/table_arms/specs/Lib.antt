pub mod Nulled
pub mod Inserted
