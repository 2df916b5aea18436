-- What can be wrong with a description, and what one gives that is right.
pub mod Sites
pub mod Places
pub mod FirstReported
pub mod CountingOrder
pub mod SplitClasses
pub mod CheckFaults
pub mod CheckedParts
pub mod CheckedShape
pub mod ReportedPlaces
