pub mod Layouts
pub mod Kept
pub mod Laws
