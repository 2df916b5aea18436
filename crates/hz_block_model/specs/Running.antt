-- Blocks, states, and what a block leaves.
pub mod Operators
pub mod Signed
pub mod Blocks
pub mod States
pub mod Limits
