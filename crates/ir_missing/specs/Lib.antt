pub mod Tells
pub mod Missing
