pub mod Rests
mod Shapes
mod Sized
mod Apart
mod AreCases
pub mod Both
