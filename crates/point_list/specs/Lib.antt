pub mod Points
pub mod Walk
pub mod Marks
