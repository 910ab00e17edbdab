pub mod Arms
pub mod Both
