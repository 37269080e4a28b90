pub mod Search
pub mod Guards
pub mod Slots
pub mod Sources
pub mod Fetching
