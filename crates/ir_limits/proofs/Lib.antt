pub mod Sums
pub mod Relations
pub mod Rooms
pub mod Above
pub mod OneCount
pub mod Alone
pub mod Members
pub mod EachLimit
