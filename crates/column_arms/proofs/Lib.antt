pub mod WholeLaws
pub mod ColumnLaws
pub mod EmptyLaws
pub mod ArmLaws
