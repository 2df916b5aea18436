pub mod Shape
pub mod Reading
pub mod Faults
pub mod Classes
pub mod Guards
