pub mod Cells
pub mod Assertion
pub mod Moves
pub mod Survives
pub mod Ending
pub mod Known
pub mod Fetching
pub mod Computing
