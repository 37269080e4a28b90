pub mod Cuts
pub mod Even
pub mod Wholes
pub mod Reaches
pub mod Deep
pub mod DeepCount
pub mod ReachCount
