pub mod Shape
pub mod Rows
pub mod Waits
pub mod Standing
pub mod Pending
