pub mod Header
pub mod Hash
pub mod Entries
pub mod Lists
pub mod Search
pub mod Changes
