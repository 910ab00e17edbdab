pub mod YieldLaws
pub mod CoroutineLaws
