pub mod Names
pub mod Faults
pub mod Checked
pub mod Parts
