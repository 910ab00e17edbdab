pub mod NullLaws
pub mod InsertLaws
