-- How long the texts of tables are.
pub mod LineSizes
pub mod TextSizes
pub mod CountSizes
pub mod StringSizes
pub mod NameSizes
pub mod TablesSizes
pub mod RowSizes
