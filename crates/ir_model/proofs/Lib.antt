mod Examples
mod PhiSwap
mod Calls
mod Accesses
mod Causes
mod Ends
pub mod Spelled
pub mod Chunks
pub mod Stored
pub mod Kept
