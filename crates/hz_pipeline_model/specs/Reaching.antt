-- Which grids and states events lead to, and how many.
pub mod Reach
pub mod Counts
pub mod Columns
pub mod Built
pub mod Present
pub mod Graphs
pub mod Subsets
