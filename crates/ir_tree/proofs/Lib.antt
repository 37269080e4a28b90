mod Keys
pub mod Table
pub mod Grows
pub mod GrowsConst
pub mod GrowsModule
pub mod Rows
