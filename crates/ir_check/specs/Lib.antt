pub mod Answers
pub mod Mains
