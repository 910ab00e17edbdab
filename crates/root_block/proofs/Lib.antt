pub mod ColumnLaws
pub mod FillLaws
pub mod LinkLaws
