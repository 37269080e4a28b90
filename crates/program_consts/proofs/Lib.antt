pub mod Numbered
pub mod Stepped
pub mod Lengths
pub mod Sized
pub mod Valued
pub mod Added
pub mod Filled
pub mod KindCells
