pub mod Memory
pub mod Placed
pub mod Joining
pub mod Words
