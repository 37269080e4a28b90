pub mod Places
pub mod Around
pub mod Phis
pub mod Looks
