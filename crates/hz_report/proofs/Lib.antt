pub mod AfterLemmas
pub mod ReplayLemmas
