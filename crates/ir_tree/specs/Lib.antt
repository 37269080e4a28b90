pub mod NameTable
pub mod Shape
pub mod ShapeOf
pub mod Known
