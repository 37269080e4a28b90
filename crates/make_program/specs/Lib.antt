pub mod Made
pub mod Main
