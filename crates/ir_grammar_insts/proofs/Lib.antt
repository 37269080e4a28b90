pub mod OperandLaw
pub mod ArithmeticLaw
pub mod MemoryLaw
pub mod InstLaw
pub mod TermLaw
pub mod OpenReading
pub mod Overlap
pub mod TermLines
pub mod OperandSpelled
pub mod InstSpelled
pub mod TermSpelled
pub mod InstFits
mod Examples
