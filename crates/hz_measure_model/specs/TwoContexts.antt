pub mod Joining
pub mod TwoContexts
pub mod Stuck
pub mod Texts
