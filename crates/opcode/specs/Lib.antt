pub mod Lookup
pub mod Opcode
pub mod P4
