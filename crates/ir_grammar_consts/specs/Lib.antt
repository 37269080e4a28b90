pub mod Types
pub mod Constants
pub mod Spelling
pub mod Depth
pub mod Counting
