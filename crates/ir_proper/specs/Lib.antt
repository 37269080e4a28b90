pub mod Edges
pub mod Availability
pub mod FlowRules
pub mod Limits
pub mod Proper
