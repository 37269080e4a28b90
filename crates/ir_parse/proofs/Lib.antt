pub mod Bodies
pub mod ItemsSoFar
pub mod Wholes
