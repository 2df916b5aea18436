-- The faults that are reported.
pub mod Repeated
pub mod PlaceSteps
pub mod NumberSteps
pub mod RowSteps
pub mod BypassSteps
pub mod ReportedSteps
pub mod CheckSteps
