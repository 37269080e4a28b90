pub mod Depth
mod Measures
pub mod Computed
mod Places
