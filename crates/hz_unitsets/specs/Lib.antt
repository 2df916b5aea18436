pub mod SetRules
pub mod RowRules
