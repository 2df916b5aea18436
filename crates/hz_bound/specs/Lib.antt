pub mod Rows
pub mod Ranges
pub mod Tallies
pub mod Sums
pub mod Shape
