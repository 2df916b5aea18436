-- That what is compiled is one machine.
pub mod ColumnLaws
pub mod WordLaws
pub mod LeftLaws
pub mod PartLaws
pub mod MachineLaws
pub mod OrderLaws
pub mod ShownLaws
pub mod ReportLaws
