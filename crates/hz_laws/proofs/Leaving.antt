-- That what events leave can be counted and listed.
pub mod OnceLaws
pub mod ListingLaws
pub mod ExploreLaws
pub mod OnwardLaws
pub mod GridCounts
pub mod StateCounts
pub mod CountsReported
pub mod ColumnLaws
pub mod LimitsReported
