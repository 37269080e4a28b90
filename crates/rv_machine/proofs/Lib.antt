pub mod Calls
pub mod LittleNumbers
pub mod RunSoFar
pub mod Served
pub mod Storing
