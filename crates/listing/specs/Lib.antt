pub mod Fields
pub mod ListingRows
