pub mod Blocks
pub mod Cycles
pub mod Distinct
pub mod InOrder
pub mod RowFits
pub mod RowUnits
pub mod Once
