pub mod Bytes
pub mod Counts
pub mod Files
pub mod Meanings
pub mod Memory
