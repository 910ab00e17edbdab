pub mod StartLaws
pub mod CallLaws
pub mod Stars
