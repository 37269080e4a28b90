pub mod State
pub mod Memory
pub mod Operations
pub mod Step
pub mod Run
pub mod Text
pub mod Start
