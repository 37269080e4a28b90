pub mod Layout
pub mod Rules
pub mod Computed
pub mod Tables
