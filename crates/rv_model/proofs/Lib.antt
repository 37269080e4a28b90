pub mod RegisterLemmas
pub mod ByteLemmas
pub mod TextLemmas
pub mod RunLemmas
pub mod StartLemmas
pub mod ActLemmas
pub mod Widths
