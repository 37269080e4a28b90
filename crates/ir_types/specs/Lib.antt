pub mod Looks
pub mod Answers
pub mod Inside
