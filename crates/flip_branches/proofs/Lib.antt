pub mod TestLaws
pub mod SwitchLaws
