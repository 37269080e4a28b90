pub mod Counts
pub mod TypeSteps
pub mod NamedItems
pub mod Texts
pub mod Flags
pub mod ConstSteps
pub mod ConstParts
