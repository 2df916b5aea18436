pub mod JudgeLaws
pub mod LineLaws
pub mod NameLaws
pub mod TraceLaws
pub mod FoundLaws
