pub mod Shape
pub mod Codes
pub mod Heads
pub mod Faults
pub mod NameSets
pub mod Stores
pub mod States
pub mod Listings
