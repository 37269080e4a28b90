pub mod Around
pub mod Scaled
