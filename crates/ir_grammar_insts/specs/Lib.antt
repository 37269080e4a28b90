pub mod Operands
pub mod Arithmetic
pub mod Memory
pub mod Instructions
pub mod Terminators
pub mod OpenRules
pub mod Spelling
