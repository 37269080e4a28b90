pub mod Locals
pub mod Tables
