pub mod ValueLaws
pub mod RegisterLaws
pub mod NullLaws
pub mod RunLaws
pub mod ChangeLaws
