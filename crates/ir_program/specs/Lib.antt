pub mod Sizes
pub mod Strides
pub mod Constants
pub mod Bytes
pub mod Operands
pub mod Frames
pub mod ProgramOf
