pub mod Runs
pub mod TreeShape
pub mod ShapeOf
