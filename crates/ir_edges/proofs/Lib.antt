pub mod Mapped
pub mod Turned
pub mod Uses
