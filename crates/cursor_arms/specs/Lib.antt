pub mod Cursors
pub mod StandsFor
pub mod Behind
