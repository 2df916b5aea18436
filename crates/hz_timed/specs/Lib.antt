pub mod Shape
pub mod Notes
pub mod Asking
pub mod Writes
pub mod Reads
pub mod Leaving
