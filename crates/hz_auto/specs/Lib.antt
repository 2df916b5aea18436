pub mod Faults
pub mod GridLists
pub mod Reports
pub mod Asks
pub mod Parts
pub mod Machines
