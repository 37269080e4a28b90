pub mod Votes
pub mod Accesses
pub mod Versions
