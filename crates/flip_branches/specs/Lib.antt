pub mod Branches
pub mod Switches
