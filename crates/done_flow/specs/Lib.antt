pub mod Edges
pub mod Turns
