pub mod CursorLeads
pub mod CursorLaws
pub mod DupLaws
pub mod DeleteLaws
pub mod StandsLaws
pub mod TableLaws
pub mod BehindLaws
