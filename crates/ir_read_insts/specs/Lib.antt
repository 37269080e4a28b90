pub mod InstHeads
pub mod Operands
