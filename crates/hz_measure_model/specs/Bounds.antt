pub mod Paths
pub mod Loads
pub mod Bounds
pub mod Texts
