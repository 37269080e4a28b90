pub mod Serving
pub mod Done
