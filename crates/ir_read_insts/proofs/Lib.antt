pub mod ValueParts
pub mod WrapFlags
pub mod InstParts
pub mod Counted
pub mod Callee
pub mod TermParts
