-- How long the texts of tables are.
pub mod Extents
