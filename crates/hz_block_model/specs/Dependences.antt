-- Which instructions of a block depend, and at what cost.
pub mod Accesses
pub mod Dependences
pub mod Graphs
pub mod Orders
pub mod Stores
pub mod Classes
pub mod ClassWords
pub mod Examples
pub mod BypassExamples
