-- The pipeline that a description means, and that its automata choose by themselves.
pub mod OneAutomaton
pub mod Choices
pub mod ExpressionFactors
pub mod FirstItems
pub mod SideBySide
pub mod RunLaws
pub mod JointLaws
