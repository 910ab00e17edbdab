pub mod RowKept
pub mod NumberLaws
pub mod HandlingLaws
