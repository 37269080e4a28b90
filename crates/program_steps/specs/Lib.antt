pub mod Laid
pub mod LaidShapes
pub mod Steps
