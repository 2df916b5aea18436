pub mod Texts
pub mod Judging
pub mod Fields
pub mod Lines
pub mod Reading
pub mod Said
pub mod Faults
