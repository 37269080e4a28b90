pub mod FoundWindows
pub mod Lines
pub mod LineWords
pub mod SlotWords
pub mod SourceLaws
pub mod FetchLaws
pub mod GuardRuns
