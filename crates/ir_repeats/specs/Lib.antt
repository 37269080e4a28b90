pub mod Least
pub mod Entries
pub mod Given
