pub mod Words
pub mod Codes
pub mod Agreement
pub mod Stars
pub mod Grammar
pub mod Tables
pub mod Automaton
