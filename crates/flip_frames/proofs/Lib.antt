pub mod ViewLemmas
pub mod RunLaws
pub mod Votes
pub mod FarSlots
pub mod Fetches
pub mod AnySlots
