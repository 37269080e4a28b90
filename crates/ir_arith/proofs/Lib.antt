pub mod Cuts
pub mod Signs
pub mod Answered
