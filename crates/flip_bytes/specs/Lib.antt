pub mod Bytes
pub mod Accesses
pub mod Calls
