pub mod Endings
pub mod Faults
pub mod Fronts
pub mod Reading
pub mod Refusals
pub mod Refusing
