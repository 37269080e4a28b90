pub mod Lists
pub mod Numbers
pub mod Computed
pub mod Cells
pub mod Steps
pub mod Runs
pub mod Examples
