pub mod Invariants
pub mod Kinds
pub mod TypedPrograms
pub mod TypedStates
