pub mod MaskLaw
pub mod SelectLaw
