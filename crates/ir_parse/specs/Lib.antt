pub mod Shapes
pub mod Drafts
pub mod Spots
pub mod Answers
