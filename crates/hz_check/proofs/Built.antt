-- What is built of a description without a fault.
pub mod ClassLists
pub mod PartSteps
pub mod QuerySteps
