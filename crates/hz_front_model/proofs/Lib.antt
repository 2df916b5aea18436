pub mod AskLaws
pub mod SingleLaws
