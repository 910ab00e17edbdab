pub mod NearLaws
pub mod ColumnLaws
pub mod HandleLaws
