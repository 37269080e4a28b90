pub mod CopyLaws
pub mod EdgeLaws
pub mod NarrowingLaws
