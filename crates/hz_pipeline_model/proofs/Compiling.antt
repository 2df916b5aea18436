-- What compiled automata are, and which limit of states a description passes.
pub mod MovedEvents
pub mod MovedLaws
pub mod ColumnLaws
pub mod PartLaws
pub mod PipelineLaws
pub mod CompiledLaws
pub mod LimitLaws
pub mod ReportLaws
pub mod FactoredLaws
pub mod DescriptionLaws
