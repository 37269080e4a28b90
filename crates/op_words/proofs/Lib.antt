pub mod Powers
pub mod Extended
mod Shifts
mod LowBits
pub mod Effects
mod Binaries
mod Bitwise
mod Divisions
mod Comparisons
mod Conversions
pub mod Answered
