pub mod Stacks
pub mod Moves
