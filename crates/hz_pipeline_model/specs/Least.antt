-- Least tables, and partitions of the states of a table.
pub mod Blocks
pub mod Normal
