pub mod Sources
pub mod Operations
