pub mod AskLemmas
pub mod LeadingRows
pub mod LeadingLemmas
