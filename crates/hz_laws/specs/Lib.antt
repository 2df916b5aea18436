pub mod Names
pub mod Sizes
pub mod Moving
pub mod MovingExamples
pub mod Grouping
pub mod GroupingExamples
pub mod Written
