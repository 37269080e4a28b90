pub mod Surroundings
pub mod Calls
