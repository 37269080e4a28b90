pub mod FirstItems
pub mod NumberedNames
pub mod AllKnown
pub mod Entered
