mod Scaling
pub mod Parts
