pub mod PrintableTypes
pub mod PrintableConsts
pub mod Rows
pub mod TypeTexts
pub mod ConstTexts
