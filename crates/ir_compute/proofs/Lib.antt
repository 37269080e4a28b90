pub mod OperandsFound
pub mod Distances
pub mod Walks
