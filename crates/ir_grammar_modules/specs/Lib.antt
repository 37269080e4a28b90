pub mod Blocks
pub mod Items
pub mod Modules
pub mod Spelling
