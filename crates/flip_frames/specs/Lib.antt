pub mod Views
pub mod Computing
pub mod Slots
pub mod Fetching
