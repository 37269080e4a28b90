pub mod Nested
pub mod Fields
