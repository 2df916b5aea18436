pub mod Operands
pub mod Shape
pub mod Numbers
