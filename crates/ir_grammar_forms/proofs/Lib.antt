mod Rows
mod TypeForms
mod BodyForms
pub mod ModuleForms
