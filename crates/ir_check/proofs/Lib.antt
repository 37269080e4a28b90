pub mod Refusals
mod Mains
