pub mod DataBytes
pub mod AccessWords
pub mod CallWords
pub mod ByteLines
