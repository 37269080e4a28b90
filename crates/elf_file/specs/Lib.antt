pub mod Extents
pub mod Image
pub mod Layout
pub mod ReadBack
pub mod Reading
