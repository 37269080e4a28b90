mod FewTokens
mod Reading
pub mod OneWay
