pub mod Slots
pub mod Swap
pub mod Choice
pub mod Countdown
