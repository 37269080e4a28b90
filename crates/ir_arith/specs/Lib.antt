pub mod Widths
pub mod Computed
