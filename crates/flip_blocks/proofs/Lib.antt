pub mod BlockBytes
pub mod StoreLaw
pub mod LoadLaw
