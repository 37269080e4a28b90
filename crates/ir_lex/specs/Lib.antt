pub mod Bytes
pub mod Lengths
pub mod Meaning
pub mod Names
pub mod Quiet
pub mod Spelling
pub mod Symbols
pub mod Tokens
