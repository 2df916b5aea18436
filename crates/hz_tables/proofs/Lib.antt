pub mod LayLaws
pub mod PackedLaws
pub mod RowLaws
pub mod NameLaws
mod PartLaws
