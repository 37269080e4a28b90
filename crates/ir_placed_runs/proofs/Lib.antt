pub mod Owned
mod Placed
mod Examples
