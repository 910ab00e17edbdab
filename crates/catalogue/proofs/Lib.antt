pub mod FlagLaws
pub mod RecordLaws
