pub mod WordLaws
pub mod CellLaws
pub mod MoveLaws
pub mod CountLaws
