pub mod MemoryLemmas
pub mod CarryLemmas
pub mod LessLemmas
pub mod ComputeLaws
pub mod CheckLaw
pub mod SlotLaws
pub mod Windows
