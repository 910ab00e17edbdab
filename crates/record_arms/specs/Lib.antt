pub mod Records
pub mod Over
