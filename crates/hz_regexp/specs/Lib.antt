pub mod Shape
pub mod Tokens
pub mod Levels
pub mod Faults
pub mod State
