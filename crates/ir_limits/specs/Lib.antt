pub mod Shares
pub mod Sums
pub mod Globals
pub mod Passing
