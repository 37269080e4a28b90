pub mod Choices
pub mod Done
