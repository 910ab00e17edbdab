pub mod Arms
pub mod LookupLaws
pub mod Tables
pub mod Numbers
