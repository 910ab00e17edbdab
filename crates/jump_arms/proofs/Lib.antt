pub mod StepLaws
pub mod StoreSteps
pub mod ReturnLaws
pub mod BothLaws
pub mod IfLaws
pub mod NullLaws
