pub mod CellLaws
pub mod OutputLaw
pub mod EndLaw
pub mod InputLaw
