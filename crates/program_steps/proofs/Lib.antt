pub mod Alike
pub mod Starts
pub mod Shaped
pub mod Leads
pub mod Walked
