pub mod Names
pub mod Lines
pub mod Pairs
pub mod Limits
pub mod Reported
pub mod Forms
