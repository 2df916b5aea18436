pub mod Names
pub mod Leaving
pub mod Totality
pub mod Sizes
pub mod Moving
pub mod Grouping
pub mod Written
