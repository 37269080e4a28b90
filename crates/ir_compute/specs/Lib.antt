pub mod Operands
pub mod Fitting
