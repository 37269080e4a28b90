pub mod ByteCell
pub mod Output
pub mod Input
pub mod Ending
