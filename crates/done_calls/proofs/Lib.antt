pub mod Frames
pub mod Calls
pub mod Returns
pub mod ExampleWords
pub mod Example
