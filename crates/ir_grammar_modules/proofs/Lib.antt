pub mod LinesToldApart
pub mod BlockLaw
pub mod ItemLaw
mod Examples
pub mod ModuleSpelled
pub mod ModuleFits
