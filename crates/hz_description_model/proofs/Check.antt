-- What can be wrong with a description, and what one gives that is right.
pub mod CheckLaws
pub mod EarliestLaws
pub mod CircleLaws
pub mod CountingLaws
pub mod KeptLaws
pub mod PlaceLaws
pub mod QueryPlaces
pub mod QueryLaws
pub mod CheckTotal
pub mod ReportedLaws
pub mod OnceLaws
pub mod SplitLaws
pub mod RankLaws
