pub mod Language
pub mod Reader
pub mod FirstWrong
pub mod Code
pub mod Sample
