pub mod EachKind
pub mod EachFormat
pub mod Lookup
pub mod WordLemmas
pub mod GroupLemmas
