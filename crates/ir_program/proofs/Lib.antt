pub mod Laid
pub mod Sized
mod Modules
pub mod Framed
