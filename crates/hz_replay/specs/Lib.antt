pub mod Names
pub mod Lines
pub mod Traces
pub mod Reading
pub mod Replaying
pub mod Drilling
