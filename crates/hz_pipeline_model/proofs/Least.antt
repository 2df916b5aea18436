-- Least tables, and partitions of the states of a table.
pub mod PlaceLaws
pub mod ReadLaws
pub mod NumberedLaws
pub mod NormalLaws
