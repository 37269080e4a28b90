pub mod OwnedBlocks
pub mod Places
