-- The pipeline that a description means, and that its automata choose by themselves.
pub mod Pipelines
pub mod Factored
