pub mod Spots
pub mod BlockShapes
pub mod Lines
pub mod ItemShapes
