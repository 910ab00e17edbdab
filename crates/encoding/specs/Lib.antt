pub mod Encode
pub mod Decode
pub mod Heads
pub mod Holds
pub mod Answers
pub mod Changes
