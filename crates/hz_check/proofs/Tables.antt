-- Names and their tables.
pub mod NameLists
pub mod TableSteps
pub mod KnownNames
pub mod Homes
pub mod HomeSteps
