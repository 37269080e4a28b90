pub mod Uses
pub mod Links
pub mod Lists
pub mod Kept
