pub mod TextWords
pub mod TextRun
