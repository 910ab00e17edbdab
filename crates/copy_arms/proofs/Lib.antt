pub mod RunLaws
pub mod CopyLaws
pub mod GapLaws
pub mod PlaceLaws
pub mod CellLaws
pub mod TurnLaws
pub mod StoreLaws
