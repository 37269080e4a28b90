pub mod Good
pub mod Sides
pub mod Laws
pub mod Lists
pub mod Recursion
pub mod Reading
pub mod Loops
pub mod Answering
pub mod SampleLaw
mod SampleTree
