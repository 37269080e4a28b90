pub mod Appends
pub mod Backward
pub mod Covers
pub mod Headers
pub mod Images
pub mod Tables
pub mod Written
