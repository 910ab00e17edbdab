pub mod Leads
pub mod Reads
pub mod Arms
pub mod Steps
pub mod Own
pub mod Over
pub mod Stores
