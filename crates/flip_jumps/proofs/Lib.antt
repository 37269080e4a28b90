pub mod JumpWords
pub mod PlaceLaws
