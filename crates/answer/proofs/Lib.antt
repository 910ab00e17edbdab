pub mod PatchLaws
pub mod DigitLaws
pub mod FieldLaws
pub mod ColumnLaws
pub mod AnswerLaws
