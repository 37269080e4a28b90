pub mod Addition
pub mod Program
pub mod Fetch
