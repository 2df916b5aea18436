pub mod Lists
pub mod Arrows
pub mod Moves
pub mod Buckets
pub mod Kept
pub mod Leading
pub mod Reading
pub mod Folding
