pub mod RangeLaws
pub mod DeepLaws
pub mod SearchLaws
pub mod BuildLaws
pub mod RecordLaws
pub mod OverLaws
