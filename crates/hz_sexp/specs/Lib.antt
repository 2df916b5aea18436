pub mod Shape
pub mod Kinds
pub mod Faults
pub mod Steps
pub mod State
