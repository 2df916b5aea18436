-- The two rules on a class with units of several automata.
pub mod DepthLaws
