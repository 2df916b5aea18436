pub mod Costs
pub mod Heights
pub mod Ranks
pub mod Walking
pub mod Repeating
pub mod Kernels
pub mod Lanes
