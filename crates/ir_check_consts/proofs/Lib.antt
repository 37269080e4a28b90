pub mod Shapes
pub mod Told
pub mod Rows
pub mod Numbers
pub mod Walking
