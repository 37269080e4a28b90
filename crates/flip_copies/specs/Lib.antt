pub mod Copies
pub mod Edges
pub mod Narrowing
