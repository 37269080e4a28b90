pub mod FrameLaws
pub mod CallLaws
