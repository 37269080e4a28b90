pub mod Kept
pub mod ValuesKept
pub mod Rows
pub mod Words
pub mod SlotsKept
pub mod BlocksKept
pub mod Added
