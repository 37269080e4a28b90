pub mod TypeHeads
pub mod ConstHeads
pub mod ConstOperands
