pub mod Rooms
pub mod Walks
pub mod Constants
pub mod Pieces
pub mod Fills
