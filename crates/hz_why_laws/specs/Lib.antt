pub mod Beginnings
pub mod Holding
pub mod First
pub mod Grouped
pub mod Narrow
pub mod Stretched
