pub mod Shapes
pub mod Written
pub mod Turns
pub mod Computing
pub mod Ready
pub mod Outcomes
