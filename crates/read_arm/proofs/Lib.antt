pub mod ColumnLaws
pub mod GatherLaws
pub mod TableLaws
