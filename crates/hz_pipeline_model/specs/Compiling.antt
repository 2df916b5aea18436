-- What compiled automata are, and which limit of states a description passes.
pub mod ClassColumns
pub mod Moved
pub mod Counted
pub mod CompiledParts
pub mod DescriptionLimits
pub mod AutomatonPipelines
pub mod Compiled
