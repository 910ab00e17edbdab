pub mod ByteLaws
pub mod EntryLaws
pub mod RowLaws
