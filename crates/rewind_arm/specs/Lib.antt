pub mod Rewinds
