pub mod Changes
pub mod Chains
pub mod Elements
pub mod Grown
pub mod Moves
pub mod Starts
pub mod Values
