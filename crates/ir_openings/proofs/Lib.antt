pub mod Types
pub mod Once
pub mod Layers
pub mod Entries
pub mod Rounds
pub mod Found
pub mod Parts
